pub mod WhyAnswers

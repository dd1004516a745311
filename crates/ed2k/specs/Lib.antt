pub mod Calls
pub mod GapCalls
pub mod WhyCalls

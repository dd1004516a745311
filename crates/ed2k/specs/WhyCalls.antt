-- What the call leaves that says why a packet is refused.
use Rattle.std.specs.Prelude.{ℕ, ◌≡◌, List, [], ◌∷◌}
use Rattle.std.proofs.Math.Option.{Option, none, some}
use Rattle.format.specs.Messages.{Kind, server_link, client_link, udp_link}
use Rattle.format.specs.Reasons.{Explains, reason_of}
use Rattle.why.specs.WhyAnswers.{spec_reason_numbers}
use Rattle.ed2k.specs.Calls.{Numbered, handed_out, numbered}

-- The kinds that it is for.
abbrev pub links : List (ℕ × Kind)
links = (0, server_link) ∷ (1, client_link) ∷ (2, udp_link) ∷ []

-- The four numbers of the reason, or 10 where there is no room for them; and what shows that the reason is true.
abbrev pub LinkWhy : Kind → List ℕ → List ℕ → Numbered → Type 0
LinkWhy k s old r = (r ≡ handed_out (spec_reason_numbers (reason_of k s)) old) × Explains k s (reason_of k s)

-- A kind that is no link: 4, before all else.
abbrev pub WhyOf : Option Kind → List ℕ → List ℕ → Numbered → Type 0
WhyOf none s old r = r ≡ numbered 4 old
WhyOf (some k) s old r = LinkWhy k s old r

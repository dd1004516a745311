-- The worked case of document 01: size 100, all missing.
use mathlib.Core.Path.{◌≡◌, refl}
use mathlib.Core.List.{[], ◌∷◌}
use Rattle.format.specs.Gaps.{gap, missing, follows, ordered, lawful, count, between, remaining, subtract, marking, size_limit}
use Rattle.gaps.specs.GapRecords.{spec_all_missing, spec_record_of, lawful_record}
use Rattle.gaps.specs.Marking.{markable, refusal, marked}

mark-40-to-60 : marked size_limit (spec_all_missing 100) 40 60
    ≡ record { number = 0; missing = 80; after = spec_record_of 100 (gap 0 40 ∷ gap 60 100 ∷ []) }
unfolding marked marking markable lawful_record lawful ordered follows subtract remaining between count missing
mark-40-to-60 = refl

mark-60-to-60 : marked size_limit (spec_all_missing 100) 60 60 ≡ refusal 8 (spec_all_missing 100)
unfolding marked marking markable lawful_record lawful ordered follows between
mark-60-to-60 = refl

-- Faults as the code finds them: a chain of fields, and the lowest place.
-- Rests on the laws of the lowest number that passes a test.
use Rattle.std.specs.Option.{option_or}
use Rattle.std.specs.Prelude.{Some, None, ◌≡◌, refl}
use Rattle.sector_rules.specs.Faults.{Fault}
use Rattle.sector_rules.specs.Faults.{or_fault}

-- the first of several fields that is wrong, as the code looks for it
pub first_of_two : (a b : Fault) → option_or a b ≡ or_fault a b
first_of_two (Some o) b = refl
first_of_two None b = refl

-- the same of five
pub first_of_five : (a b c d e : Fault) → option_or (option_or (option_or (option_or a b) c) d) e ≡ or_fault a (or_fault b (or_fault c (or_fault d e)))
first_of_five (Some o) b c d e = refl
first_of_five None (Some o) c d e = refl
first_of_five None None (Some o) d e = refl
first_of_five None None None (Some o) e = refl
first_of_five None None None None e = refl

-- the same of six
pub first_of_six : (a b c d e f : Fault)
    → option_or (option_or (option_or (option_or (option_or a b) c) d) e) f ≡ or_fault a (or_fault b (or_fault c (or_fault d (or_fault e f))))
first_of_six (Some o) b c d e f = refl
first_of_six None b c d e f = first_of_five b c d e f

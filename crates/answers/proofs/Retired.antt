-- No answer has a code that is retired. Assumes nothing.
use mathlib.Core.Path.{◌≡◌, refl}
use mathlib.Core.Bool.{Bool, false, not}
use denote.Enum.Declared.{Choice}
use borrow.Author.Tests.{not-true}
use Rattle.counting.specs.Lists.{among}
use Rattle.answers.specs.contracts.Refusal.{the_parts as parts, as_values, the_make as make, the_eta as eta}
use Rattle.answers.proofs.Rows.{tests, passes, each_row}
use Rattle.std.specs.Prelude.{Result, Ok, Err}
use Rattle.answers.specs.declared.Refusal.{Refusal}
use Rattle.answers.specs.Table.{refusal_code, code_of, retired_codes}

abbrev in_use : Choice parts → Bool
in_use row = not (among (refusal_code (make row)) retired_codes)

rows_in_use : tests parts in_use ≡ passes parts
unfolding among
rows_in_use = refl

pub not_retired : {A : Type 0} (a : Result A Refusal) → among (code_of a) retired_codes ≡ false
unfolding among
not_retired (Ok x) = refl
not_retired (Err r) = rw (← eta r) (not-true _ (each_row parts in_use rows_in_use (as_values r)))

-- Equal pairs have equal parts. Assumes nothing.
use mathlib.Core.Path.{◌≡◌, ap}

pub pair_parts : {A B : Type 0} {x a : A} {y b : B} → ◌≡◌ {A = A × B} (x, y) (a, b) → (x ≡ a) × (y ≡ b)
pair_parts {A} {B} e = (ap (λ (t : A × B). t.0) e, ap (λ (t : A × B). t.1) e)

-- The bit of a relay in its byte, as the code shifts it. Assumes nothing.
use Prim.Native.Nat.{ℕ, ◌*◌, ◌%◌, ◌^◌}
use mathlib.Core.Path.{◌≡◌}
use native.Mathlib.Omega.{arith}
use native.Mathlib.Nat.{one-mul}
use lib.Pow.{shl_exact}

pub shifted : (k : ℕ) → 1 * 2 ^ (k % 8) % 256 ≡ 2 ^ (k % 8)
shifted k = rw (shl_exact {a = 1} 1 (k % 8) 8 (omega arith) (omega arith), one-mul)

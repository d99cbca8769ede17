-- Every text fits the room that the lister asks for. Assumes nothing.
use Prim.Native.Nat.{ℕ, zero, suc, ◌*◌, ◌^◌, ◌≤◌, ◌<◌}
use mathlib.Core.Path.{◌≡◌, refl}
use mathlib.Core.Bool.{Bool, true, false, cond}
use mathlib.Core.List.{List, []}
use native.Mathlib.Omega.{arith}
use lib.Dec.{eqb}
use lib.ListN.{length, replicate, length-append}
use Rattle.std.specs.Prelude.{Result, Ok, Err, decimal}
use Rattle.std.proofs.lemmas.Fmt.{length-decimal-le}
use Rattle.answers.specs.declared.Refusal.{Refusal}
use Rattle.answers.specs.Table.{refusal_code, refusal_number}
use Rattle.answers.proofs.Done.{is_done_lem}
use Rattle.counting.specs.Count.{count}
use Rattle.wiring.specs.Frame.{type_in, frame}
use Rattle.wiring.specs.Map.{closed_in}
use Rattle.counting.proofs.Counting.{count_le}
use Rattle.wiring.proofs.Frame.{is_there}
use Rattle.overfull.specs.declared.Sums.{Sums}
use Rattle.overfull.specs.Overfull.{sum_list, no_sums}
use Rattle.frame.specs.declared.Job.{Job}
use Rattle.jobs.specs.Read.{read_job}
use Rattle.router.specs.Router.{routed}
use Rattle.router.proofs.Answering.{route_done}
use Rattle.text.proofs.Decimal.{decimal_most}
use Rattle.listing.specs.Lines.{terminal_text, net_line, net_lines, size_line, map_text, spaced, refused_text, printed}
use Rattle.listing.specs.Listing.{job_text, text_of, most_text}

net_length : (W k : ℕ) → W ≤ 64 → k < 6 * W → length (net_line W k) ≤ 10
unfolding net_line terminal_text
net_length W k w h =
    let r = is_there W k h in
    let most : (d n : ℕ) → 0 < d → n < 10 ^ d → n < 2 ^ 64 → length (decimal n) ≤ d = λ d n a b c. length-decimal-le d n a b c in
    simp length-append
    (omega (arith, most 1 (type_in W k) (omega arith) (omega arith) (omega arith), most 2 ((frame W).first k) (omega arith) (omega arith) (omega arith), most 2 ((frame W).second k) (omega arith) (omega arith) (omega arith)))

pub nets-length : (W n : ℕ) (m : List ℕ) → W ≤ 64 → n ≤ 6 * W → length (net_lines W m n) ≤ 10 * n
unfolding net_lines
nets-length W zero m w h = omega arith
nets-length W (suc n) m w h = rw length-append (omega (arith, nets-length W n m w (omega arith), line (closed_in m n)))
  where
    line : (b : Bool) → length (cond b (net_line W n) []) ≤ 10
    line true = net_length W n w h
    line false = omega arith

pub map_text_length : (W : ℕ) (m : List ℕ) → W ≤ 64 → length (map_text W m) ≤ most_text
unfolding map_text size_line
map_text_length W m w =
    let n : ℕ = count (frame W).relays (closed_in m) in
    let c = count_le (frame W).relays (closed_in m) in
    simp length-append (omega (arith, length-decimal-le 2 W (omega arith) (omega arith) (omega arith), length-decimal-le 3 n (omega arith) (omega arith) (omega arith), nets-length W (6 * W) m w (omega arith)))

sums-length : (sums : Sums) (b : Bool) → length (spaced (cond b (sum_list sums) [])) ≤ 260
unfolding spaced
sums-length sums true = simp length-append (omega (arith, decimal_most sums.left, decimal_most sums.top, decimal_most sums.right, decimal_most sums.bottom))
sums-length sums false = omega arith

pub refused_text_length : (r : Refusal) (sums : Sums) → length (refused_text r sums) ≤ most_text
unfolding refused_text spaced
refused_text_length r sums =
    simp length-append
    (omega (arith, decimal_most (refusal_code r), decimal_most (refusal_number r), sums-length sums (eqb (refusal_code r) 3)))

printed_length : {A : Type 0} (a : Result A Refusal) (sums : Sums) (text : A → List ℕ) → ((x : A) → a ≡ Ok x → length (text x) ≤ most_text) → length (printed a sums text) ≤ most_text
printed_length (Ok x) sums text h = h x refl
printed_length (Err r) sums text h = refused_text_length r sums

pub job_text_length : (j : Job) → length (job_text j) ≤ most_text
unfolding job_text routed
job_text_length j =
    printed_length _ _ _
    (λ done e. map_text_length j.size _ (route_done j.size j.counts (replicate 48 0) (is_done_lem _ e)).served.1)

-- the text for any bytes
pub text_length : (s : List ℕ) → length (text_of s) ≤ most_text
unfolding text_of
text_length s = printed_length (read_job s) no_sums job_text (λ j e. job_text_length j)

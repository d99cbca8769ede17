-- The number in the first line: it is the number of closed relays, of lines that follow, and of the job's nets. Assumes nothing.
use Prim.Native.Nat.{ℕ, zero, suc, ◌+◌, ◌-◌}
use mathlib.Core.Path.{◌≡◌, refl, sym, ◌∙◌}
use mathlib.Core.Bool.{Bool, true, false, cond, ◌&&◌, and-true}
use mathlib.Core.List.{List, [], ◌∷◌, ◌++◌}
use native.Mathlib.Omega.{arith}
use lib.Dec.{eqb}
use lib.ListN.{get_or, replicate}
use borrow.Author.Tests.{ne_eqb}
use Rattle.std.specs.Prelude.{decimal, All}
use Rattle.std.proofs.lemmas.List.Elements.{All-head, All-tail}
use Rattle.answers.specs.Lent.{is_done}
use Rattle.answers.proofs.Done.{done_is}
use Rattle.counting.specs.Count.{one, count, sum_to}
use Rattle.wiring.specs.Frame.{frame}
use Rattle.wiring.specs.Map.{closed_in}
use Rattle.counting.proofs.Counting.{count_ext}
use Rattle.wiring.proofs.Frame.{frame_proper}
use Rattle.wiring.proofs.Pigeon.{carried_sum}
use Rattle.frame.specs.declared.Counts.{Counts}
use Rattle.frame.specs.Leaves.{count_list}
use Rattle.frame.specs.declared.Job.{Job}
use Rattle.router.specs.Route.{map_for}
use Rattle.router.specs.Router.{route_answer, routed}
use Rattle.router.proofs.Maps.{map_carries}
use Rattle.router.proofs.Answering.{route_done}
use Rattle.text.proofs.Decimal.{IsDigit, decimal_digits}
use Rattle.listing.specs.Lines.{lf, total, letter, terminal_text, net_line, net_lines, size_line, map_text}
use Rattle.listing.specs.Listing.{job_text}

-- how many of the bytes are LF
unfoldable pub line_ends : List ℕ → ℕ
line_ends [] = 0
line_ends (b ∷ bs) = one (eqb b lf) + line_ends bs

pub ends_append : (xs ys : List ℕ) → line_ends (xs ++ ys) ≡ line_ends xs + line_ends ys
unfolding line_ends
ends_append [] ys = omega arith
ends_append (x ∷ xs) ys = omega (arith, ends_append xs ys)

ends_digits : (xs : List ℕ) → All IsDigit xs → line_ends xs ≡ 0
unfolding line_ends
ends_digits [] h = refl
ends_digits (x ∷ xs) h =
    let d = All-head IsDigit x xs h in
    rw (ne_eqb x lf (λ e. omega arith)) (omega (arith, ends_digits xs (All-tail IsDigit x xs h)))

ends_decimal : (n : ℕ) → line_ends (decimal n) ≡ 0
ends_decimal n = ends_digits (decimal n) (decimal_digits n)

not_end : (s : ℕ) → eqb (letter s) lf ≡ false
not_end s = go (s - 1)
  where
    go : (i : ℕ) → eqb (get_or (76 ∷ 84 ∷ 82 ∷ 66 ∷ []) i 0) lf ≡ false
    go zero = refl
    go (suc zero) = refl
    go (suc (suc zero)) = refl
    go (suc (suc (suc zero))) = refl
    go (suc (suc (suc (suc i)))) = refl

ends_terminal : (s p : ℕ) → line_ends (terminal_text s p) ≡ 0
unfolding terminal_text line_ends
ends_terminal s p = rw (not_end s) (omega (arith, ends_decimal p))

-- a net's line has one LF, so the lines are as many as the closed relays
ends_net : (W k : ℕ) → line_ends (net_line W k) ≡ 1
unfolding net_line line_ends
ends_net W k = simp (ends_append, ends_decimal, ends_terminal)

pub ends_nets : (W : ℕ) (m : List ℕ) (k : ℕ) → line_ends (net_lines W m k) ≡ count k (closed_in m)
unfolding net_lines line_ends count
ends_nets W m zero = refl
ends_nets W m (suc k) = rw ends_append (omega (arith, ends_nets W m k, line (closed_in m k)))
  where
    line : (b : Bool) → line_ends (cond b (net_line W k) []) ≡ one b
    line true = ends_net W k
    line false = refl

-- the nets that a job asks for
pub nets-routed : (W : ℕ) (n : Counts) (room : List ℕ) → is_done (route_answer W n room) ≡ true → count (frame W).relays (closed_in (map_for W n)) ≡ total n
unfolding sum_to
nets-routed W n room e =
    let closed : ℕ → Bool = closed_in (map_for W n) in
    let sum = carried_sum (frame W) (frame_proper W) (count_list n) closed (map_carries W n (route_done W n room e).within) (λ c. true) in
    let all = count_ext (frame W).relays closed (λ k. closed k && true) (λ k h. sym (and-true (closed k))) in
    omega arith

-- the text of a job that is routed: the first line says how many nets it has, and as many lines follow
pub record NetsListed (j : Job) : Type 0 where
  pub text : job_text j ≡ size_line j.size (total j.counts) ++ net_lines j.size (map_for j.size j.counts) (frame j.size).relays
  pub lines : line_ends (net_lines j.size (map_for j.size j.counts) (frame j.size).relays) ≡ total j.counts

pub nets-listed : (j : Job) → is_done (route_answer j.size j.counts (replicate 48 0)) ≡ true → NetsListed j
unfolding job_text map_text routed
nets-listed j e =
    let n = nets-routed j.size j.counts (replicate 48 0) e in
    record { text = rw (done_is _ e, n); lines = ends_nets _ _ _ ∙ n }

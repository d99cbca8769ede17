-- The lines of the bench lister (scope, "The bench lister"), in ASCII, each ended by one LF. Assumes nothing.
use Rattle.std.specs.Prelude.{ℕ, zero, suc, ◌+◌, ◌-◌, cond, List, [], ◌∷◌, ◌++◌, eqb, get_or, decimal, Result, Ok, Err}
use Rattle.answers.specs.declared.Refusal.{Refusal}
use Rattle.answers.specs.Table.{refusal_code, refusal_number}
use Rattle.counting.specs.Count.{count}
use Rattle.wiring.specs.Wiring.{from_side, to_side}
use Rattle.wiring.specs.Frame.{type_in, frame}
use Rattle.wiring.specs.Map.{closed_in}
use Rattle.frame.specs.declared.Counts.{Counts}
use Rattle.overfull.specs.declared.Sums.{Sums}
use Rattle.overfull.specs.Overfull.{sum_list}

abbrev pub space : ℕ
space = 32

abbrev pub lf : ℕ
lf = 10

-- "SIZE ", " NETS " and "REFUSED"
abbrev pub size_word : List ℕ
size_word = 83 ∷ 73 ∷ 90 ∷ 69 ∷ space ∷ []

abbrev pub nets_word : List ℕ
nets_word = space ∷ 78 ∷ 69 ∷ 84 ∷ 83 ∷ space ∷ []

abbrev pub refused_word : List ℕ
refused_word = 82 ∷ 69 ∷ 70 ∷ 85 ∷ 83 ∷ 69 ∷ 68 ∷ []

-- L, T, R, B for sides 1 to 4
abbrev pub letter : ℕ → ℕ
letter s = get_or (76 ∷ 84 ∷ 82 ∷ 66 ∷ []) (s - 1) 0

-- position p of side s, as L1
unfoldable pub terminal_text : ℕ → ℕ → List ℕ
terminal_text s p = letter s ∷ decimal p

-- type, terminal on the earlier side, terminal on the later side of relay k
unfoldable pub net_line : ℕ → ℕ → List ℕ
net_line W k =
    decimal (type_in W k)
    ++ (space ∷ terminal_text (from_side (frame W) k) ((frame W).first k)
    ++ (space ∷ terminal_text (to_side (frame W) k) ((frame W).second k)
    ++ (lf ∷ [])))

-- one line for each closed relay below k, by rising number
unfoldable pub net_lines : ℕ → List ℕ → ℕ → List ℕ
net_lines W m zero = []
net_lines W m (suc k) = net_lines W m k ++ cond (closed_in m k) (net_line W k) []

-- the nets of all types
abbrev pub total : Counts → ℕ
total n = n.n1 + n.n2 + n.n3 + n.n4 + n.n5 + n.n6

-- the size and the number of closed relays
unfoldable pub size_line : ℕ → ℕ → List ℕ
size_line W nets = size_word ++ (decimal W ++ (nets_word ++ (decimal nets ++ (lf ∷ []))))

-- what is printed of a map
unfoldable pub map_text : ℕ → List ℕ → List ℕ
map_text W m = size_line W (count (frame W).relays (closed_in m)) ++ net_lines W m (frame W).relays

-- numbers, each with a space before it
unfoldable pub spaced : List ℕ → List ℕ
spaced [] = []
spaced (n ∷ ns) = space ∷ decimal n ++ spaced ns

-- the four sums where the code is 3, else nothing
abbrev pub sums_after : ℕ → Sums → List ℕ
sums_after code sums = cond (eqb code 3) (sum_list sums) []

-- a refusal: code and number, and where the code is 3 the sums
unfoldable pub refused_text : Refusal → Sums → List ℕ
refused_text r sums = refused_word ++ (spaced (refusal_code r ∷ refusal_number r ∷ sums_after (refusal_code r) sums) ++ (lf ∷ []))

-- the text of what is given, or of the refusal in its place
abbrev pub printed : {A : Type 0} → Result A Refusal → Sums → (A → List ℕ) → List ℕ
printed (Ok x) sums text = text x
printed (Err r) sums text = refused_text r sums

-- A row's nets, as the router reads them out of the array that holds them. Assumes nothing.
use Rattle.std.specs.Prelude.{ℕ, List, take}
use Rattle.loads.specs.declared.Seated.{Seated}

-- the nets that it holds, each by its type
abbrev pub net_types : Seated → List ℕ
net_types s = take s.nets s.types

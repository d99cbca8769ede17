-- The room is long enough for every text, and the text lies within it.
use Rattle.std.proofs.Common.{ℕ, ◌≤◌, length, sym, ◌∙◌, arith, length-take-le}
use Rattle.std.specs.Prelude.{replicate}
use Rattle.std.proofs.lemmas.List.{length-replicate}
use Rattle.listing.specs.Listing.{most_text}
use Rattle.listing.proofs.Texts.{list_done, list_within}
use Rattle.lister.proofs.main.Goals as goal

pub unwrap-listed-requires : goal.unwrap-listed-requires
unwrap-listed-requires c =
    let long : most_text ≤ length (replicate {A = ℕ} 4096 0) = omega (arith, length-replicate {A = ℕ} 4096 0) in
    rw (c.list.ensures.value ∙ list_done _ _ long)

pub slice_bounds-text-end : goal.slice_bounds-text-end
slice_bounds-text-end c = omega (arith, list_within _ _ (sym c.list.ensures.value ∙ c.unwrap-listed.ensures), c.list.auto.room)

pub slice_bounds-write_all-end : goal.slice_bounds-write_all-end
slice_bounds-write_all-end c =
    sym (length-take-le _ _ (omega (arith, list_within _ _ (sym c.list.ensures.value ∙ c.unwrap-listed.ensures), c.list.auto.room)))

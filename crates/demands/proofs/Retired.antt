-- Row 14 of the scope's table cannot come up. Assumes nothing.
use Rattle.answers.proofs.Done.{is_done_lem}
use Rattle.wiring.proofs.Pigeon.{carried_within}
use Rattle.map_check.proofs.Meaning.{passed_within}
use Rattle.demands.specs.Retired.{Retired}

pub retired : Retired
retired = record {
  any_wiring = carried_within;
  past_13 = λ W n m form shared counts. passed_within W n m (is_done_lem _ shared) (is_done_lem _ counts);
}

use Rattle.puts.proofs.Puts.{put_more}
use Rattle.puts.proofs.put_bytes.Goals as goal

pub loop-i-preserved : goal.loop-i-preserved
loop-i-preserved c = put_more _ _ _ c.loop-i.i c.loop-i-test.true c.loop-i.invariant

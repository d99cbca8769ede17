use mathlib.Core.Path.{sym, ◌∙◌}
use Rattle.text.proofs.Stores.{wrote_as, wrote_append}
use Rattle.listing.proofs.Lines.{IsNet, is_net}
use Rattle.listing.proofs.put_net.Goals as goal
use Rattle.listing.proofs.put_net.Goals.{After-unwrap}

-- the relay that was found, and what its line is made of
net : (c : After-unwrap) → IsNet c.args.size c.args.relay c.unwrap-kind.result.0 c.unwrap.result.0 c.unwrap.result.1
net c = is_net _ _ c.requires.relay_there (sym c.sort_relay.ensures ∙ c.unwrap-kind.ensures) (sym c.relay_terminals.ensures ∙ c.unwrap.ensures)

pub put_terminal-requires-clause-side_there : goal.put_terminal-requires-clause-side_there
put_terminal-requires-clause-side_there c = (net (goal.at.put_terminal-requires-clause-side_there c).After-unwrap).from

pub put_terminal-requires-2-clause-side_there : goal.put_terminal-requires-2-clause-side_there
put_terminal-requires-2-clause-side_there c = (net (goal.at.put_terminal-requires-2-clause-side_there c).After-unwrap).to

pub returns : goal.returns
returns c =
    wrote_as (net (goal.at.returns c).After-unwrap).line
    (wrote_append c.put_decimal.ensures (wrote_append c.put_terminal.ensures (wrote_append c.put_terminal-2.ensures c.put_byte.ensures)))

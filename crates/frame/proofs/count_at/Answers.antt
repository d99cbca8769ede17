use mathlib.Core.Path.{sym}
use native.Mathlib.Omega.{arith}
use lib.ListN.{get_or-eq_default}
use Rattle.frame.specs.Leaves.{count_list}
use Rattle.frame.proofs.count_at.Goals as goal

pub returns-in-0 : goal.returns-in-0
returns-in-0 c = simp c.in-0.is

pub returns-in-1 : goal.returns-in-1
returns-in-1 c = simp c.in-1.is

pub returns-in-2 : goal.returns-in-2
returns-in-2 c = simp c.in-2.is

pub returns-in-3 : goal.returns-in-3
returns-in-3 c = simp c.in-3.is

pub returns-in-4 : goal.returns-in-4
returns-in-4 c = simp c.in-4.is

pub returns-in-5 : goal.returns-in-5
returns-in-5 c = simp c.in-5.is

pub returns-in_default : goal.returns-in_default
returns-in_default c = sym (get_or-eq_default (count_list c.args.counts) 0 {n = c.args.place} (omega (arith, c.in_default)))

-- A clash names transitions and a place of the net.
use Rattle.std.proofs.Common.{◌≡◌, ℕ, ◌<◌, length, ap, inl, inr, arith}
use Rattle.std.specs.List.{range_with_len}
use Rattle.std.proofs.lemmas.Bool.{cases_lt}
use Rattle.stg_net.specs.Graph.{taken_by, takes}
use Rattle.stg_net.specs.Initial.{graph_of}
use Rattle.stg_net.specs.Net.{NetLists}
use Rattle.stg_net.proofs.Weights.{place_at-past, live_below}
use Rattle.stg_laws.specs.Conflict.{IsClash}
use Rattle.stg_laws.proofs.Names.{live_from}
use Rattle.stg_conflict.specs.declared.clash.Clash.{Clash}

-- the numbers of the clash are there
pub record IsWithinNet (n : NetLists) (c : Clash) : Type 0 where
  pub t1 : c.t1 < length n.trans
  pub t2 : c.t2 < length n.trans
  pub place : c.place < length n.tokens

-- what takes from a place takes from one of the net
taken_below : (n : NetLists) (t p : ℕ) → 0 < takes (graph_of n) t p → p < length n.tokens
taken_below n t p some = elim (cases_lt p (length n.tokens)) [
  | inl below ↦ below
  | inr past ↦ let none : takes (graph_of n) t p ≡ 0 = ap (taken_by t) (place_at-past n (range_with_len 0 (length n.signals)) p past) in absurd (omega arith)
]

pub clash_within : (n : NetLists) (c : Clash) → IsClash (graph_of n) c.t1 c.t2 c.place → IsWithinNet n c
clash_within n c is =
    let r = is.conflict.rivals in record {
      t1 = live_below n c.t1 (live_from (graph_of n) c.t1 r.t_name r.t_has);
      t2 = live_below n c.t2 (live_from (graph_of n) c.t2 r.u_name r.u_has);
      place = taken_below n c.t1 c.place is.conflict.t_takes;
    }

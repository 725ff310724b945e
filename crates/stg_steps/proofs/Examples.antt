-- Worked texts: each is that of a log, or has a bad line.
use Rattle.std.proofs.Common.{◌≡◌, ℕ, List, [], ◌∷◌, codes, true, Ok, Err, refl}
use Rattle.std.specs.Fmt.{digits}
use Rattle.stg_net.specs.declared.trans.Edge.{Edge}
use Rattle.stg_net.specs.declared.trans.Edge.TheVariants.{Rise, Fall}
use Rattle.stg_net.specs.Net.{NetLists}
use Rattle.stg_net.specs.Spec.{IsSpec}
use Rattle.stg_contract.specs.declared.verdict.Verdict.TheVariants as verdict
use Rattle.stg_contract.specs.inner.Worked.{net, are_labels}
use Rattle.stg_redundant.specs.declared.found.PlaceRule.TheVariants as place_rule
use Rattle.stg_redundant.specs.declared.found.DummyRule.TheVariants as dummy_rule
use Rattle.stg_derive.specs.declared.step.Secure.TheVariants as secure
use Rattle.stg_derive.specs.declared.step.Step.{Step}
use Rattle.stg_derive.specs.declared.step.Step.TheVariants.{Contract, DropPlace, DropDummy}
use Rattle.stg_derive.specs.declared.part.Restore.{Restore}
use Rattle.stg_derive.specs.inner.Derivable.{is_derivable}
use Rattle.stg_derive.proofs.DerivableNets.{tables_are_spec}
use Rattle.stg_steps.specs.declared.log.Log.{Log}
use Rattle.stg_steps.specs.Logs.{IsLogOf, IsBadLine}
use Rattle.stg_steps.specs.inner.Reading.{log_in}
use Rattle.stg_steps.proofs.BadLines.{refused_line}
use Rattle.stg_steps.proofs.WholeLogs.{told_log}

-- names and transitions without places
module _ (names : List (List ℕ)) (trans : List (ℕ × Edge × ℕ)) (labels : are_labels names trans ≡ true) (met : is_derivable names trans [] [] ≡ true) where
  is_spec : IsSpec (record { net = net names trans [] []; place_names = [] })
  is_spec = tables_are_spec names trans [] [] labels refl met (net names trans [] []) [] refl refl

  -- a text that is read is that of its log, and one that is refused has that bad line
  tells : (text : List ℕ) (log : Log) → log_in (net names trans [] []) text ≡ Ok log → IsLogOf (net names trans [] []) text log
  tells = told_log (net names trans [] []) is_spec.is_net

  is_bad : (text : List ℕ) (line : ℕ) → log_in (net names trans [] []) text ≡ Err line → IsBadLine (net names trans [] []) text line
  is_bad text line e = refused_line (net names trans [] []) is_spec.is_net text line is_spec.well_named e

-- the read cycle of a bus controller
abbrev bus_names : List (List ℕ)
bus_names = codes "dsr" ∷ codes "ldtack" ∷ codes "lds" ∷ codes "d" ∷ codes "dtack" ∷ []

abbrev bus_trans : List (ℕ × Edge × ℕ)
bus_trans =
    (0, Rise, 0) ∷ (2, Rise, 0) ∷ (1, Rise, 0) ∷ (3, Rise, 0) ∷ (4, Rise, 0) ∷ (0, Fall, 0) ∷ (3, Fall, 0) ∷ (4, Fall, 0) ∷ (2, Fall, 0) ∷ (1, Fall, 0) ∷ []

abbrev bus : NetLists
bus = net bus_names bus_trans [] []

abbrev bus_steps : List Step
bus_steps =
    Contract 0 secure.Type1 1 ∷ Contract 2 secure.Type1 1 ∷ Contract 5 secure.Type1 1 ∷ Contract 8 secure.Type1 1 ∷ Contract 9 secure.Type1 1
    ∷ DropPlace (record { place = 15; rule = place_rule.Shortcut }) ∷ Contract 1 secure.Type1 1 ∷ []

bus_log : IsLogOf bus (codes "contract dsr+ type1 places 1\ncontract ldtack+ type1 places 1\ncontract dsr- type1 places 1\ncontract lds- type1 places 1\ncontract ldtack- type1 places 1\ndrop place 15 shortcut\ncontract lds+ type1 places 1\nend\n") (record { restored = []; steps = bus_steps })
unfolding digits
bus_log = tells bus_names bus_trans refl refl _ _ refl

-- two handshakes
abbrev shake_names : List (List ℕ)
shake_names = codes "r1" ∷ codes "r2" ∷ codes "a1" ∷ codes "a2" ∷ []

abbrev shake_trans : List (ℕ × Edge × ℕ)
shake_trans = (0, Rise, 0) ∷ (2, Rise, 0) ∷ (0, Fall, 0) ∷ (2, Fall, 0) ∷ (1, Rise, 0) ∷ (3, Rise, 0) ∷ (1, Fall, 0) ∷ (3, Fall, 0) ∷ []

abbrev shakes : NetLists
shakes = net shake_names shake_trans [] []

abbrev shake_steps : List Step
shake_steps =
    Contract 4 secure.Type1 1 ∷ Contract 5 secure.Type1 1 ∷ Contract 6 secure.Type1 1
    ∷ DropPlace (record { place = 10; rule = place_rule.Loop }) ∷ DropDummy (record { trans = 7; rule = dummy_rule.Loop }) ∷ []

shake_log : IsLogOf shakes (codes "contract r2+ type1 places 1\ncontract a2+ type1 places 1\ncontract r2- type1 places 1\ndrop place 10 loop\ndrop dummy a2- loop\nend\n") (record { restored = []; steps = shake_steps })
unfolding digits
shake_log = tells shake_names shake_trans refl refl _ _ refl

-- a contraction that would bring a clash
abbrev clash_names : List (List ℕ)
clash_names = codes "a" ∷ codes "h" ∷ codes "x" ∷ []

abbrev clash_trans : List (ℕ × Edge × ℕ)
clash_trans = (0, Rise, 0) ∷ (1, Rise, 0) ∷ (0, Rise, 1) ∷ (2, Rise, 0) ∷ []

abbrev clash : NetLists
clash = net clash_names clash_trans [] []

abbrev clash_records : List Restore
clash_records = record { signal = 1; trans = 1; verdict = verdict.Clash 0 2 } ∷ []

clash_log : IsLogOf clash (codes "restore h h+ clash a+ a+/1\nend\n") (record { restored = clash_records; steps = [] })
unfolding digits
clash_log = tells clash_names clash_trans refl refl _ _ refl

-- each other verdict and rule
abbrev other_records : List Restore
other_records =
    record { signal = 1; trans = 1; verdict = verdict.Loop } ∷ record { signal = 1; trans = 1; verdict = verdict.Weight } ∷ record { signal = 0; trans = 2; verdict = verdict.Insecure }
    ∷ record { signal = 1; trans = 1; verdict = verdict.Places 145 } ∷ record { signal = 1; trans = 1; verdict = verdict.Large } ∷ []

abbrev other_steps : List Step
other_steps =
    Contract 1 secure.Type2 1 ∷ DropPlace (record { place = 0; rule = place_rule.Same 1 }) ∷ DropPlace (record { place = 1; rule = place_rule.Shortcut })
    ∷ DropDummy (record { trans = 2; rule = dummy_rule.Same 0 }) ∷ []

other_log : IsLogOf clash (codes "restore h h+ loop\nrestore h h+ weight\nrestore a a+/1 insecure\nrestore h h+ places 145\nrestore h h+ large\ncontract h+ type2 places 1\ndrop place 0 same 1\ndrop place 1 shortcut\ndrop dummy a+/1 same a+\nend\n") (record { restored = other_records; steps = other_steps })
unfolding digits
other_log = tells clash_names clash_trans refl refl _ _ refl

bad_line : (text : List ℕ) (line : ℕ) → log_in clash text ≡ Err line → IsBadLine clash text line
bad_line = is_bad clash_names clash_trans refl refl

-- texts with a bad line
no_transition : IsBadLine clash (codes "contract zz+ type1 places 1\n") 1
no_transition = bad_line _ _ refl

other_signal : IsBadLine clash (codes "restore h a+ loop\nend\n") 1
other_signal = bad_line _ _ refl

allowing_verdict : IsBadLine clash (codes "restore h h+ type1\nend\n") 1
allowing_verdict = bad_line _ _ refl

two_spaces : IsBadLine clash (codes "drop place 1  loop\nend\n") 1
two_spaces = bad_line _ _ refl

leading_zero : IsBadLine clash (codes "drop place 1 loop\ndrop place 01 loop\nend\n") 2
leading_zero = bad_line _ _ refl

ten_digits : IsBadLine clash (codes "drop place 1000000000 loop\nend\n") 1
ten_digits = bad_line _ _ refl

index_zero : IsBadLine clash (codes "drop dummy a+/0 loop\nend\n") 1
unfolding digits
index_zero = bad_line _ _ refl

restored_late : IsBadLine clash (codes "drop place 1 loop\nrestore h h+ loop\nend\n") 2
restored_late = bad_line _ _ refl

no_end : IsBadLine clash (codes "drop place 1 loop\n") 2
no_end = bad_line _ _ refl

cut_off : IsBadLine clash (codes "drop place 1 loop\nend") 2
cut_off = bad_line _ _ refl

empty : IsBadLine clash [] 1
empty = bad_line _ _ refl

after_end : IsBadLine clash (codes "end\n\n") 2
after_end = bad_line _ _ refl

after_end_cut_off : IsBadLine clash (codes "end\nx") 2
after_end_cut_off = bad_line _ _ refl

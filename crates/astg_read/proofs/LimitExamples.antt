-- Worked examples of limits and of what a text stands for.
use Rattle.std.specs.Prelude.{◌≡◌, ℕ, [], ◌∷◌, codes, refl, true, false, Ok}
use Rattle.stg_net.specs.declared.limits.Limits.{Limits}
use Rattle.stg_net.specs.declared.signal.Kind.TheVariants.{Input, Output}
use Rattle.stg_net.specs.declared.trans.Edge.TheVariants.{Rise, Fall}
use Rattle.astg_read.specs.declared.rule.Rule.TheVariants as rules
use Rattle.astg_read.specs.Graphs.{Named, Between}
use Rattle.astg_read.specs.Reading.{reading}
use Rattle.astg_read.proofs.ExampleWords.{is_fault}

abbrev within : ℕ → ℕ → ℕ → ℕ → Limits
within signals trans places arcs = record { bytes = 200; signals = signals; trans = trans; places = places; arcs = arcs; weight = 9 }

too_long : is_fault rules.TooLong 0 (reading false (record { bytes = 3; signals = 9; trans = 9; places = 9; arcs = 9; weight = 9 }) (codes "\n\n.x"))
too_long = refl

signals_full : is_fault rules.TooMany 2 (reading false (within 2 9 9 9) (codes ".inputs a b\n.outputs c\n.graph\n.end"))
signals_full = refl

dummies_dont_count : is_fault rules.HasDummy 2 (reading false (within 2 9 9 9) (codes ".inputs a b\n.dummy c d e\n.graph\n.end"))
dummies_dont_count = refl

trans_full : is_fault rules.TooMany 4 (reading false (within 2 2 9 9) (codes ".inputs a b\n.graph\na+ a-\na+ a-/1\n.end"))
trans_full = refl

places_full : is_fault rules.TooMany 3 (reading false (within 2 9 1 9) (codes ".inputs a b\n.graph\na+ p q\n.end"))
places_full = refl

-- a place between two transitions is two arcs
arcs_full : is_fault rules.TooMany 5 (reading false (within 2 9 9 2) (codes ".inputs a b\n.graph\na+ b+\np\na+ p\n.end"))
arcs_full = refl

-- also where a later word of the line breaks an earlier rule
weight_first : is_fault rules.BadWeight 3 (reading false (within 2 9 1 9) (codes ".inputs a b\n.graph\na+ p q r(10)\n.end"))
weight_first = refl

meaning : reading false (within 9 9 9 9) (codes ".inputs a\n.outputs x\n.graph\na+ x+ p(2) x-\np x+/1(3)\nr\n.marking { p=2\n<a+,x-> }\n.end") ≡ Ok (record {
  lists = record {
    signals = record { name = codes "a"; kind = Input } ∷ record { name = codes "x"; kind = Output } ∷ [];
    trans = record { signal = 0; edge = Rise; index = 0 } ∷ record { signal = 1; edge = Rise; index = 0 } ∷ record { signal = 1; edge = Fall; index = 0 } ∷ record { signal = 1; edge = Rise; index = 1 } ∷ [];
    tokens = 0 ∷ 2 ∷ 1 ∷ 0 ∷ [];
    arcs = record { place = 0; trans = 0; into = true; weight = 1 } ∷ record { place = 0; trans = 1; into = false; weight = 1 } ∷ record { place = 1; trans = 0; into = true; weight = 2 }
        ∷ record { place = 2; trans = 0; into = true; weight = 1 } ∷ record { place = 2; trans = 2; into = false; weight = 1 } ∷ record { place = 1; trans = 3; into = false; weight = 3 } ∷ [];
  };
  places = Between (record { signal = 0; edge = Rise; index = 0 }) (record { signal = 1; edge = Rise; index = 0 }) ∷ Named (codes "p") ∷ Between (record { signal = 0; edge = Rise; index = 0 }) (record { signal = 1; edge = Fall; index = 0 }) ∷ Named (codes "r") ∷ [];
  dummies = [];
})
meaning = refl

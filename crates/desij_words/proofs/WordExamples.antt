-- What worked words ask for, computed.
use Rattle.std.proofs.Common.{◌≡◌, [], ◌∷◌, None, Some, List, refl, codes, true, false, map}
use Rattle.desij_words.specs.Words.{Text, Decompose, Measure, asked_in, usage}
use Rattle.desij_words.specs.Serving.{Serving, serving_in}
use Rattle.desij_words.specs.declared.words.TheConstants.{USAGE}

plain : asked_in (codes "decompose" ∷ codes "a.g" ∷ []) ≡ Some (Decompose (codes "a.g") 1 None false)
plain = refl

attached : asked_in (codes "decompose" ∷ codes "--workers=2" ∷ codes "a.g" ∷ []) ≡ Some (Decompose (codes "a.g") 2 None false)
attached = refl

all_in_one_order : asked_in (codes "decompose" ∷ codes "--steps" ∷ codes "--partition" ∷ codes "p" ∷ codes "a.g" ∷ codes "--workers" ∷ codes "64" ∷ []) ≡ Some (Decompose (codes "a.g") 64 (Some (codes "p")) true)
all_in_one_order = refl

all_in_another : asked_in (codes "decompose" ∷ codes "a.g" ∷ codes "--workers" ∷ codes "10" ∷ codes "--partition=p=q" ∷ codes "--steps" ∷ []) ≡ Some (Decompose (codes "a.g") 10 (Some (codes "p=q")) true)
all_in_another = refl

a_spec_named_as_the_command : asked_in (codes "decompose" ∷ codes "decompose" ∷ []) ≡ Some (Decompose (codes "decompose") 1 None false)
a_spec_named_as_the_command = refl

measured : asked_in (codes "measure" ∷ codes "248" ∷ []) ≡ Some (Measure 248 1)
measured = refl

measured_by_workers : asked_in (codes "measure" ∷ codes "--workers" ∷ codes "3" ∷ codes "1" ∷ []) ≡ Some (Measure 1 3)
measured_by_workers = refl

abbrev AllRefused : List (List Text) → Type 0
AllRefused rows = map asked_in rows ≡ map (λ (r : List Text). None) rows

no_form : AllRefused (
    []
    ∷ (codes "decompose" ∷ [])
    ∷ (codes "a.g" ∷ [])
    ∷ (codes "serve" ∷ codes "a" ∷ codes "1" ∷ [])
    ∷ (codes "--steps" ∷ codes "decompose" ∷ codes "a.g" ∷ [])
    ∷ (codes "decompose" ∷ codes "a.g" ∷ codes "b.g" ∷ [])
    ∷ (codes "decompose" ∷ codes "a.g" ∷ codes "--workers" ∷ codes "0" ∷ [])
    ∷ (codes "decompose" ∷ codes "a.g" ∷ codes "--workers" ∷ codes "65" ∷ [])
    ∷ (codes "decompose" ∷ codes "a.g" ∷ codes "--workers" ∷ codes "100" ∷ [])
    ∷ (codes "decompose" ∷ codes "a.g" ∷ codes "--workers=08" ∷ [])
    ∷ (codes "decompose" ∷ codes "a.g" ∷ codes "--workers=+8" ∷ [])
    ∷ (codes "decompose" ∷ codes "a.g" ∷ codes "--workers=8a" ∷ [])
    ∷ (codes "decompose" ∷ codes "a.g" ∷ codes "--workers=" ∷ [])
    ∷ (codes "decompose" ∷ codes "a.g" ∷ codes "--workers" ∷ [])
    ∷ (codes "decompose" ∷ codes "a.g" ∷ codes "--workers" ∷ codes "2" ∷ codes "--workers=2" ∷ [])
    ∷ (codes "decompose" ∷ codes "a.g" ∷ codes "--steps" ∷ codes "--steps" ∷ [])
    ∷ (codes "decompose" ∷ codes "a.g" ∷ codes "--steps=" ∷ [])
    ∷ (codes "decompose" ∷ codes "a.g" ∷ codes "--steps=1" ∷ [])
    ∷ (codes "decompose" ∷ codes "a.g" ∷ codes "--step" ∷ [])
    ∷ (codes "decompose" ∷ codes "a.g" ∷ codes "-s" ∷ [])
    ∷ (codes "decompose" ∷ codes "a.g" ∷ codes "-" ∷ [])
    ∷ (codes "decompose" ∷ codes "-" ∷ [])
    ∷ (codes "decompose" ∷ codes "" ∷ [])
    ∷ (codes "decompose" ∷ codes "--" ∷ codes "a.g" ∷ [])
    ∷ (codes "decompose" ∷ codes "a.g" ∷ codes "--" ∷ [])
    ∷ (codes "decompose" ∷ codes "a.g" ∷ codes "--help" ∷ [])
    ∷ (codes "decompose" ∷ codes "--help" ∷ [])
    ∷ (codes "decompose" ∷ codes "-h" ∷ [])
    ∷ (codes "decompose" ∷ codes "a.g" ∷ codes "--partition" ∷ codes "p" ∷ codes "--partition=p" ∷ [])
    ∷ (codes "decompose" ∷ codes "a.g" ∷ codes "--partition=" ∷ [])
    ∷ (codes "decompose" ∷ codes "a.g" ∷ codes "--partition" ∷ codes "" ∷ [])
    ∷ (codes "decompose" ∷ codes "a.g" ∷ codes "--partition=-p" ∷ [])
    ∷ (codes "decompose" ∷ codes "a.g" ∷ codes "--partition" ∷ codes "--steps" ∷ [])
    ∷ (codes "decompose" ∷ codes "a.g" ∷ codes "--partition" ∷ codes "--workers=2" ∷ codes "p" ∷ [])
    ∷ (codes "measure" ∷ [])
    ∷ (codes "measure" ∷ codes "0" ∷ [])
    ∷ (codes "measure" ∷ codes "249" ∷ [])
    ∷ (codes "measure" ∷ codes "07" ∷ [])
    ∷ (codes "measure" ∷ codes "7" ∷ codes "8" ∷ [])
    ∷ (codes "measure" ∷ codes "7" ∷ codes "--steps" ∷ [])
    ∷ (codes "measure" ∷ codes "7" ∷ codes "--partition" ∷ codes "p" ∷ [])
    ∷ (codes "measure" ∷ codes "--" ∷ codes "7" ∷ [])
    ∷ [])
no_form = refl

-- ---- words of a run that serves

served : serving_in (codes "serve" ∷ codes "here" ∷ codes "3" ∷ []) ≡ Some (record { addr = codes "here"; count = 3; database = None })
served = refl

served_most : serving_in (codes "serve" ∷ codes "127.0.0.1:8080" ∷ codes "1000000" ∷ []) ≡ Some (record { addr = codes "127.0.0.1:8080"; count = 1000000; database = None })
served_most = refl

-- the six ways to name a database
abbrev named : List Text → Type 0
named words = serving_in (codes "serve" ∷ words) ≡ Some (record { addr = codes "here"; count = 1; database = Some (codes "a.db") })

named_first : named (codes "--database=a.db" ∷ codes "here" ∷ codes "1" ∷ [])
named_first = refl

named_between : named (codes "here" ∷ codes "--database=a.db" ∷ codes "1" ∷ [])
named_between = refl

named_last : named (codes "here" ∷ codes "1" ∷ codes "--database=a.db" ∷ [])
named_last = refl

named_next_first : named (codes "--database" ∷ codes "a.db" ∷ codes "here" ∷ codes "1" ∷ [])
named_next_first = refl

named_next_between : named (codes "here" ∷ codes "--database" ∷ codes "a.db" ∷ codes "1" ∷ [])
named_next_between = refl

named_next_last : named (codes "here" ∷ codes "1" ∷ codes "--database" ∷ codes "a.db" ∷ [])
named_next_last = refl

named_with_a_sign : serving_in (codes "serve" ∷ codes "a" ∷ codes "1" ∷ codes "--database=p=q" ∷ []) ≡ Some (record { addr = codes "a"; count = 1; database = Some (codes "p=q") })
named_with_a_sign = refl

-- a count may stand for an address, but no address for a count
counted : serving_in (codes "serve" ∷ codes "1" ∷ codes "2" ∷ []) ≡ Some (record { addr = codes "1"; count = 2; database = None })
counted = refl

abbrev AllUnserved : List (List Text) → Type 0
AllUnserved rows = map serving_in rows ≡ map (λ (r : List Text). None) rows

no_serving : AllUnserved (
    []
    ∷ (codes "serve" ∷ [])
    ∷ (codes "serve" ∷ codes "here" ∷ [])
    ∷ (codes "serve" ∷ codes "1" ∷ codes "here" ∷ [])
    ∷ (codes "here" ∷ codes "1" ∷ [])
    ∷ (codes "here" ∷ codes "serve" ∷ codes "1" ∷ [])
    ∷ (codes "decompose" ∷ codes "a.g" ∷ [])
    ∷ (codes "decompose" ∷ codes "here" ∷ codes "1" ∷ [])
    ∷ (codes "measure" ∷ codes "1" ∷ [])
    ∷ (codes "serve" ∷ codes "here" ∷ codes "0" ∷ [])
    ∷ (codes "serve" ∷ codes "here" ∷ codes "1000001" ∷ [])
    ∷ (codes "serve" ∷ codes "here" ∷ codes "01" ∷ [])
    ∷ (codes "serve" ∷ codes "here" ∷ codes "+1" ∷ [])
    ∷ (codes "serve" ∷ codes "here" ∷ codes "1a" ∷ [])
    ∷ (codes "serve" ∷ codes "here" ∷ codes "" ∷ [])
    ∷ (codes "serve" ∷ codes "" ∷ codes "1" ∷ [])
    ∷ (codes "serve" ∷ codes "-here" ∷ codes "1" ∷ [])
    ∷ (codes "serve" ∷ codes "here" ∷ codes "1" ∷ codes "1" ∷ [])
    ∷ (codes "serve" ∷ codes "here" ∷ codes "1" ∷ codes "2" ∷ codes "3" ∷ [])
    ∷ (codes "serve" ∷ codes "--" ∷ codes "here" ∷ codes "1" ∷ [])
    ∷ (codes "serve" ∷ codes "here" ∷ codes "1" ∷ codes "--" ∷ [])
    ∷ (codes "serve" ∷ codes "here" ∷ codes "1" ∷ codes "--help" ∷ [])
    ∷ (codes "serve" ∷ codes "here" ∷ codes "1" ∷ codes "--database" ∷ [])
    ∷ (codes "serve" ∷ codes "here" ∷ codes "1" ∷ codes "--database=" ∷ [])
    ∷ (codes "serve" ∷ codes "here" ∷ codes "1" ∷ codes "--database" ∷ codes "" ∷ [])
    ∷ (codes "serve" ∷ codes "here" ∷ codes "1" ∷ codes "--database=-a" ∷ [])
    ∷ (codes "serve" ∷ codes "here" ∷ codes "1" ∷ codes "--database" ∷ codes "--steps" ∷ [])
    ∷ (codes "serve" ∷ codes "here" ∷ codes "1" ∷ codes "--data" ∷ codes "a.db" ∷ [])
    ∷ (codes "serve" ∷ codes "here" ∷ codes "1" ∷ codes "--workers" ∷ codes "2" ∷ [])
    ∷ (codes "serve" ∷ codes "here" ∷ codes "--database" ∷ codes "1" ∷ [])
    ∷ (codes "serve" ∷ codes "--database=a.db" ∷ codes "--database=a.db" ∷ codes "here" ∷ codes "1" ∷ [])
    ∷ (codes "serve" ∷ codes "--database" ∷ codes "a.db" ∷ codes "here" ∷ codes "1" ∷ codes "--database" ∷ codes "a.db" ∷ [])
    ∷ [])
no_serving = refl

usage_printed : USAGE.now ≡ usage
usage_printed = refl

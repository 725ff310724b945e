-- The test whether two edges are one.
use Rattle.std.proofs.Common.{◌≡◌, true, refl}
use Rattle.std.proofs.lemmas.Bool.{false≢true}
use Rattle.stg_net.specs.declared.trans.Edge.{Edge}
use Rattle.stg_net.specs.declared.trans.Edge.TheVariants.{Rise, Fall, Toggle}
use Rattle.stg_net.specs.Net.{is_edge}

-- edges that pass are equal
pub is_edge-true : (e f : Edge) → is_edge e f ≡ true → e ≡ f
is_edge-true Rise Rise h = refl
is_edge-true Rise Fall h = absurd (false≢true h)
is_edge-true Rise Toggle h = absurd (false≢true h)
is_edge-true Fall Rise h = absurd (false≢true h)
is_edge-true Fall Fall h = refl
is_edge-true Fall Toggle h = absurd (false≢true h)
is_edge-true Toggle Rise h = absurd (false≢true h)
is_edge-true Toggle Fall h = absurd (false≢true h)
is_edge-true Toggle Toggle h = refl

pub is_edge-itself : (e : Edge) → is_edge e e ≡ true
is_edge-itself Rise = refl
is_edge-itself Fall = refl
is_edge-itself Toggle = refl

-- A net that can be written and has its order is read back from its text.
use Rattle.std.proofs.Common.{◌≡◌, ◌^◌, ◌<◌, ◌≤◌, ℕ, List, length, refl, arith}
use Rattle.stg_net.specs.Net.{NetLists, IsNet}
use Rattle.stg_net.specs.Ordered.{ordered}
use Rattle.astg_write.specs.PlaceNames.{place_prefix}
use Rattle.astg_write.specs.ComponentText.{component_text}
use Rattle.astg_write.specs.Writable.{IsWritable}
use Rattle.astg_write.specs.ReadsBack.{ReadsBack}
use Rattle.astg_write.proofs.WrittenRows.{IsFormed}
use Rattle.astg_write.proofs.Readable.{IsReadable}
use Rattle.astg_write.proofs.InOrder.{ordered-signals, ordered-rising}
use Rattle.astg_write.proofs.FreePrefix.{prefix-free, place-named, place-length, names-apart}
use Rattle.astg_write.proofs.TextLength.{text-length}
use Rattle.astg_write.proofs.ReadBack.{reads-back}

module _ (n : NetLists) (net : IsNet n) (can : IsWritable n) where
  abbrev prefix : List ℕ
  prefix = place_prefix n.signals

  formed : IsFormed prefix n
  formed = record {
    names = can.named.names;
    indices = can.named.indices;
    trans_signals = net.trans_signals;
    places = λ p b. place-named n.signals can.within.signals p (omega (arith, b, can.within.places));
    arcs = λ k d b. ((net.arcs k d b).place_there, (net.arcs k d b).trans_there, (let w = can.within.weights k d b in omega (arith, w)));
    tokens = λ k d b. (let t = can.within.tokens k d b in omega (arith, t));
  }

  readable : (whole : NetLists) → n ≡ ordered whole → IsReadable prefix n
  readable whole e = record {
    formed = formed;
    is_net = net;
    within = can.within;
    free = prefix-free n.signals can.within.signals;
    places_apart = λ p q a b differ. names-apart prefix p q (omega (arith, a, can.within.places)) (omega (arith, b, can.within.places)) differ;
    by_kind = ordered-signals whole n e;
    rising = ordered-rising whole n e;
  }

  short-text : (part : ℕ) → part < 2 ^ 32 → length (component_text n part) ≤ 16777216
  unfolding component_text
  short-text part small = text-length prefix n formed can.within net.arcs (λ p b. place-length n.signals can.within.signals p (omega (arith, b, can.within.places))) part small

  -- the text of a net that has its order is read back as that net
  pub component-reads_back : (part : ℕ) → part < 2 ^ 32 → (whole : NetLists) → n ≡ ordered whole → ReadsBack n (component_text n part)
  component-reads_back part small whole e = reads-back n (readable whole e) part (omega (arith, small)) (component_text n part) refl (short-text part small)

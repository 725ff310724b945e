use Rattle.std.proofs.Common.{◌≢◌, ◌<◌, ◌==◌, ℕ, List, All, AllPairs, map, length, subst, sym, ap, ◌∙◌, arith}
use Rattle.std.specs.List.{list_any}
use Rattle.stg_net.specs.declared.signal.Signal.{Signal}
use Rattle.stg_net.specs.declared.trans.TransName.{TransName}
use Rattle.stg_edit.specs.declared.edit_start.EditStart.{EditStart}
use Rattle.stg_arena.specs.declared.end.End.TheVariants.{Place}
use Rattle.stg_edit.specs.inner.DraftAt.{AreEditStarts, past_of}
use Rattle.stg_edit.specs.inner.Sizes.{size_of}
use Rattle.stg_edit.proofs.EditStarts.{starts_first}
use Rattle.stg_net.specs.Net.{signal_at}
use Rattle.stg_edit.specs.Editing.{full_name_in}
use Rattle.stg_edit.specs.inner.View.{base_of}
use Rattle.stg_edit.proofs.Filling.{initial_table}
use Rattle.stg_edit.proofs.DraftSizes.{size_whole}
use Rattle.stg_edit.proofs.editor.Editor.of.Goals as goal

record Signals : Type 0 where
  signals : List Signal
  names : List TransName
  known : List ℕ

pub size_from-size-requires-clause-live : goal.size_from-size-requires-clause-live
size_from-size-requires-clause-live c = λ p low high. c.in_ok-arena.ensures.live Place p

pub returns-clause-now : goal.returns-clause-now
returns-clause-now c =
    let n = c.args.net.now in
    let signals = c.in_ok-copy_signals.ensures ∙ c.signals.ensures.signals in
    let names = c.in_ok-from_slice.ensures ∙ c.trans.ensures.trans in
    let known = c.in_ok-known_numbers.ensures.items ∙ c.as_slice.ensures in
    initial_table n c.args.known.now (base_of c.in_ok-copy_signals.field-0 c.in_ok-from_slice.field-0 c.in_ok-known_numbers.field-0.items (length c.tokens.result.now)) c.in_ok-arena.arena c.in_ok-arena.ensures
    (λ i. map (full_name_in (signals i)) (names i)) (λ i. map (λ s. (signal_at (signals i) s).name) (known i)) (ap length c.tokens.ensures.tokens)

pub invariant_of-result : goal.invariant_of-result
invariant_of-result c =
    let l = c.in_ok-arena.arena in
    let n = c.args.net.now in
    let f = c.in_ok-arena.ensures in
    let net = c.signals.ensures.net in
    let signals = c.in_ok-copy_signals.ensures ∙ c.signals.ensures.signals in
    let names = c.in_ok-from_slice.ensures ∙ c.trans.ensures.trans in
    let known = c.in_ok-known_numbers.ensures.items ∙ c.as_slice.ensures in
    let P : List EditStart → Type 0 = λ ms. AreEditStarts l ms in
    let R : List TransName → List Signal → Type 0 = λ names signals. All (λ (t : TransName). t.signal < length signals) names in
    let K : List ℕ → List Signal → Type 0 = λ known signals. All (λ s. s < length signals) known in
    let D : List Signal → Type 0 = λ signals. AllPairs (λ (s t : Signal). s.name ≢ t.name) signals in
    let E : List TransName → Type 0 = λ names. AllPairs (λ (s t : TransName). s ≢ t) names in
    record {
      arena = f.arena;
      are_starts = subst P (sym c.new.ensures.items) (starts_first l c.in_ok-arena.ensures.arena.timed c.in_ok-arena.ensures.arena.laid);
      room = omega arith;
      removals_long = omega (arith, f.removals_room, f.places_room, f.trans);
      long = omega arith;
      roomy = omega (arith, f.room, f.places, f.places_room);
      names_long = ap length names ∙ sym f.trans;
      named = record {
        in_range = let Q : Signals → Type 0 = λ x. R x.names x.signals in subst Q (λ i. record { signals = sym signals i; names = sym names i; known = sym known i }) net.trans_signals;
        known_there = let Q : Signals → Type 0 = λ x. K x.known x.signals in subst Q (λ i. record { signals = sym signals i; names = sym names i; known = sym known i }) c.requires.in_range;
        names_differ = subst D (sym signals) net.signal_names;
        trans_differ = subst E (sym names) net.trans_names;
        signals_fit = rw signals net.signals_fit;
        flagged = λ s. c.in_ok-known_flags.ensures.flags s ∙ ap (list_any (λ k. k == s)) (c.as_slice-2.ensures ∙ sym known);
        flags_long = c.in_ok-known_flags.ensures.len ∙ ap length (c.signals-3.ensures.signals ∙ sym signals);
        trans_few = omega (arith, ap length names, c.requires.within.trans);
      };
      known_room = omega (arith, c.in_ok-known_numbers.ensures.room, ap length signals, ap length c.signals-2.ensures.signals);
      sizes_room = omega arith;
      sized = record {
        now_sized = c.size_from-size.ensures ∙ size_whole (base_of c.in_ok-copy_signals.field-0 c.in_ok-from_slice.field-0 c.in_ok-known_numbers.field-0.items (length c.tokens.result.now)) l f.arena.timed (λ p low. f.live Place p);
        past_sized = c.new-2.ensures.items ∙ ap (λ ms. map size_of (past_of (base_of c.in_ok-copy_signals.field-0 c.in_ok-from_slice.field-0 c.in_ok-known_numbers.field-0.items (length c.tokens.result.now)) l ms)) (sym c.new.ensures.items);
      };
    }

-- What is true of each draft.
use Rattle.std.proofs.Common.{◌≡◌, ◌<◌, ℕ, Some, get_or, length, is_some, sym, ap, ◌∙◌, option_map, arith}
use Rattle.std.proofs.lemmas.Option.{slice_get-map, slice_get-get_or}
use Rattle.std.proofs.lemmas.List.{length-map}
use Rattle.std.proofs.lemmas.List.FromFn.{length-map-range_with_len}
use Rattle.stg_net.specs.declared.trans.Edge.TheVariants.{Rise}
use Rattle.stg_net.specs.declared.trans.TransName.{TransName}
use Rattle.stg_net.specs.Graph.{full_name_at}
use Rattle.stg_arena.specs.declared.end.End.TheVariants.{Trans}
use Rattle.stg_arena.specs.ArenaView.{none, removed_at}
use Rattle.stg_edit.specs.declared.editor.Editor.TheInside.{Inside}
use Rattle.stg_edit.specs.Drafts.{IsDraft}
use Rattle.stg_edit.specs.Editing.{full_name_in}
use Rattle.stg_edit.specs.inner.DraftAt.{now_of, draft_name, table_at}
use Rattle.stg_edit.specs.inner.Table.{table_place}
use Rattle.stg_edit.specs.inner.View.{IsEditor, base, editing}
use Rattle.stg_edit.proofs.Compacting.{same_names}
use Rattle.stg_edit.proofs.DraftChanges.{trans_lives}
use Rattle.stg_edit.proofs.DraftOfLive.{name_now, weightless_removed, weightless_past}

-- what is true of each draft is true of each editor
pub is_draft : (e : Inside) → IsEditor e → IsDraft (editing e)
is_draft e i =
    let l = e.arena in
    let x = base e in
    let g = now_of x l in
    let d : TransName = record { signal = 0; edge = Rise; index = 0 } in
    let timed = i.arena.timed in
    let laid = i.arena.laid in
    let long = length-map e.names (full_name_in e.signals) ∙ i.names_long in
    let count = length-map-range_with_len (draft_name l x.names (length l.removals)) 0 (length l.trans) in
    let at : (t : ℕ) → t < length l.trans → removed_at l Trans t ≡ none → full_name_at g t ≡ Some (full_name_in e.signals (get_or e.names t d)) =
    λ t low live.
    name_now x l t timed low live
    ∙ slice_get-map (full_name_in e.signals) e.names t
    ∙ ap (option_map (full_name_in e.signals)) (slice_get-get_or e.names t d (omega (arith, low, i.names_long))) in
    record {
      names_differ = i.named.names_differ;
      trans_differ = λ t u live same.
          let a = trans_lives x t l timed live in
          let b = trans_lives x u l timed (ap is_some (sym same) ∙ live) in
          same_names e.signals e.names t u d i.named.names_differ i.named.trans_differ i.named.in_range
          (omega (arith, a.0, i.names_long)) (omega (arith, b.0, i.names_long))
          (sym (at t a.0 a.1) ∙ same ∙ at u b.0 b.1);
      weightless = λ t p low removed. weightless_removed x l t p long (omega (arith, low, count)) removed;
      narrow = λ t p past. weightless_past x l t p (omega (arith, past, count));
      signals_fit = i.named.signals_fit;
      trans_fit = omega (arith, laid.sizes Trans, count);
      places_fit = omega (arith, laid.places, laid.most_places, length-map-range_with_len (table_place (length l.trans) (table_at l (length l.removals))) 0 (length l.places));
    }

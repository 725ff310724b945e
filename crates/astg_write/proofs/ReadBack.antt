-- The text of a net is read back as that net.
use Rattle.std.proofs.Common.{◌≡◌, ◌+◌, ◌^◌, ◌<◌, ◌≤◌, ℕ, List, [], ◌∷◌, ◌++◌, false, cond, length, map, refl, sym, ap, ◌∙◌, append-nil}
use Rattle.std.proofs.lemmas.Bool.{le-ltb}
use Rattle.std.proofs.lemmas.List.{map-append}
use Rattle.std.proofs.lemmas.List.Sorted.{IsPermutation-sym}
use Rattle.std.specs.Prelude.{codes, Ok, Err}
use Rattle.stg_net.specs.declared.limits.TheConstants.Limits.{PART}
use Rattle.stg_net.specs.Net.{NetLists}
use Rattle.stg_net.specs.Spec.{SpecLists}
use Rattle.astg_lex.specs.Lines.{lines_of, line_ends}
use Rattle.astg_read.specs.declared.rule.Rule.TheVariants.{TooLong}
use Rattle.astg_read.specs.Rows.{Row}
use Rattle.astg_read.specs.Rules.{seen_line}
use Rattle.astg_read.specs.Reading.{Meaning, meaning_of, reading_after, reading, IsSpecOf, place_name as name_of_place}
use Rattle.astg_read.proofs.OneSpec.{one_spec}
use Rattle.astg_write.specs.PlaceNames.{place_prefix}
use Rattle.astg_write.specs.ComponentText.{component_text, model_line, net_lines}
use Rattle.astg_write.specs.ReadsBack.{ReadsBack}
use Rattle.astg_write.proofs.WrittenWords.{AreLines, AreLines-append, good_line}
use Rattle.astg_write.proofs.WrittenRows.{model_row, net_rows, header_rows, graph_rows, marking_row, model-line, net-lines}
use Rattle.astg_write.proofs.TakenRows.{reading-taken, reading-end}
use Rattle.astg_write.proofs.Readable.{IsReadable}
use Rattle.astg_write.proofs.ReadNet.{at_end, takes-rows, ends-good, finished, same-trans, same-tokens, moved-arcs}

module _ (n : NetLists) (r : IsReadable (place_prefix n.signals) n) (part : ℕ) (small : part < 2 ^ 64) where
  abbrev prefix : List ℕ
  prefix = place_prefix n.signals

  abbrev rows : List Row
  rows = model_row part ∷ (header_rows n.signals ++ graph_rows prefix n ++ marking_row prefix n.tokens ∷ [])

  abbrev said : Meaning
  said = meaning_of (at_end prefix n r)

  -- the text's lines
  seen-text : (text : List ℕ) → text ≡ model_line part ++ net_lines prefix n → map seen_line (lines_of text) ≡ map good_line rows ++ good_line (codes ".end" ∷ []) ∷ []
  seen-text text e =
      let all : AreLines (model_line part ++ net_lines prefix n) (model_row part ∷ [] ++ net_rows prefix n) =
      AreLines-append (model_line part) (net_lines prefix n) (model_row part ∷ []) (net_rows prefix n) (model-line part small) (net-lines prefix n r.formed) in
      ap (λ t. map seen_line (lines_of t)) (e ∙ sym (append-nil (model_line part ++ net_lines prefix n)))
      ∙ all []
      ∙ append-nil (map good_line (model_row part ∷ [] ++ net_rows prefix n))
      ∙ map-append good_line rows ((codes ".end" ∷ []) ∷ [])

  -- the text stands for what its rows say
  reading-text : (text : List ℕ) → text ≡ model_line part ++ net_lines prefix n → length text ≤ 16777216 → reading false PART text ≡ Ok said
  reading-text text e short =
      let last = line_ends text + 1 in
      let taken = reading-taken PART last [] rows (good_line (codes ".end" ∷ []) ∷ []) (at_end prefix n r) (takes-rows prefix n r part) in
      ap (λ b. cond b (Err (record { rule = TooLong; line = 0 })) (reading_after false PART last [] (map seen_line (lines_of text)))) (le-ltb 16777216 (length text) short)
      ∙ ap (reading_after false PART last []) (seen-text text e)
      ∙ taken.0
      ∙ reading-end PART last rows (at_end prefix n r) [] taken.1 (finished prefix n r) (ends-good prefix n r)

  pub reads-back : (text : List ℕ) → text ≡ component_text n part → length text ≤ 16777216 → ReadsBack n text
  unfolding component_text
  reads-back text e short =
      let spec : SpecLists = record { net = n; place_names = map (name_of_place said.lists.trans) said.places } in
      let given : IsSpecOf said spec = record {
        signals = refl;
        trans = sym (same-trans prefix n r);
        tokens = sym (same-tokens prefix n r);
        arcs = IsPermutation-sym n.arcs said.lists.arcs (moved-arcs prefix n r);
        is_net = r.is_net;
        place_names = refl;
      } in
      record {
        meaning = said;
        stands = reading-text text e short;
        spec = spec;
        given = given;
        only = λ s h. ap (λ (r : SpecLists). r.net) (one_spec said s spec h given);
      }

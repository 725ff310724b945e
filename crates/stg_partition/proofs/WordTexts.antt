-- Tests of words over their texts_of.
use Rattle.std.proofs.Common.{◌≡◌, ◌<◌, ◌+◌, ℕ, suc, ◌||◌, ◌&&◌, List, [], ◌∷◌, ◌++◌, map, take, length, get_or, refl, sym, ap, ◌∙◌, arith}
use Rattle.std.proofs.Math.Seq.{take-suc}
use Rattle.std.proofs.lemmas.List.{map-append}
use Rattle.std.specs.Str.{bytes_eq}
use Rattle.std.specs.List.{list_any, list_all}
use Rattle.std.proofs.lemmas.List.Folds.{list_any-append}
use Rattle.stg_net.specs.declared.signal.Signal.{Signal}
use Rattle.stg_net.specs.Graph.{is_among}
use Rattle.astg_lex.specs.declared.words.Word.{Word}
use Rattle.stg_partition.specs.PartitionText.{GroupRow, names_output, words_of_rows}
use Rattle.stg_laws.specs.PlainGroups.{Group}
use Rattle.stg_partition.specs.Partition.{row_group}
use Rattle.stg_net.specs.Net.{NetLists}
use Rattle.stg_partition.specs.inner.WordTexts.{texts_of, all_texts}

pub among_texts : (words : List Word) (w : List ℕ) → list_any (λ (x : Word). bytes_eq x.text.now w) words ≡ is_among (texts_of words) w
among_texts [] w = refl
among_texts (x ∷ words) w = ap (λ b. bytes_eq x.text.now w || b) (among_texts words w)

pub outputs_texts : (signals : List Signal) (words : List Word) → list_all (λ (x : Word). names_output signals x.text.now) words ≡ list_all (names_output signals) (texts_of words)
outputs_texts signals [] = refl
outputs_texts signals (x ∷ words) = ap (λ b. names_output signals x.text.now && b) (outputs_texts signals words)

pub among_append : (xs ys : GroupRow) (w : List ℕ) → is_among (xs ++ ys) w ≡ (is_among xs w || is_among ys w)
among_append xs ys w = list_any-append (λ known. bytes_eq known w) xs ys

pub among_rows : (rows : List (List Word)) (w : List ℕ) → list_any (λ (row : List Word). is_among (texts_of row) w) rows ≡ is_among (words_of_rows (all_texts rows)) w
among_rows [] w = refl
among_rows (row ∷ rows) w = ap (λ b. is_among (texts_of row) w || b) (among_rows rows w) ∙ sym (among_append (texts_of row) (words_of_rows (all_texts rows)) w)

-- the groups of one row more
pub groups_more : (n : NetLists) (rows : List (List Word)) (i : ℕ) (groups new : List Group) (g : Group) → i < length rows → groups ≡ map (row_group n) (map texts_of (take i rows)) → g ≡ row_group n (texts_of (get_or rows i [])) → new ≡ groups ++ g ∷ []
    → new ≡ map (row_group n) (map texts_of (take (i + 1) rows))
groups_more n rows i groups new g inside so_far here more =
    let f : List Word → Group = λ row. row_group n (texts_of row) in
    let next : suc i ≡ i + 1 = omega arith in
    more ∙ ap (λ gs. gs ++ g ∷ []) so_far ∙ ap (λ x. map (row_group n) (map texts_of (take i rows)) ++ x ∷ []) here
    ∙ sym (ap (map (row_group n)) (map-append texts_of (take i rows) (get_or rows i [] ∷ [])) ∙ map-append (row_group n) (map texts_of (take i rows)) (texts_of (get_or rows i []) ∷ []))
    ∙ ap (λ xs. map (row_group n) (map texts_of xs)) (sym (take-suc rows i [] inside))
    ∙ ap (λ k. map (row_group n) (map texts_of (take k rows))) next

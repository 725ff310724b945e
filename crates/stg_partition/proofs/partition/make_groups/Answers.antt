use Rattle.std.proofs.Common.{◌∙◌, List, [], ap}
use Rattle.std.proofs.lemmas.List.{get_or_default}
use Rattle.astg_lex.specs.declared.words.Word.{Word}
use Rattle.stg_partition.specs.Partition.{row_group}
use Rattle.stg_partition.specs.inner.WordTexts.{texts_of}
use Rattle.stg_partition.proofs.WordTexts.{groups_more}
use Rattle.stg_partition.proofs.partition.make_groups.Goals as goal

pub loop-row-preserved : goal.loop-row-preserved
loop-row-preserved c =
    let n = c.args.net.now in
    let rows = c.args.rows.now in
    let i = c.loop-row.row-index in
    let row = c.row-item.result in
    groups_more n rows i c.loop-row.groups c.push_group.new.groups (row_group n (texts_of row)) c.loop-row-test.true c.loop-row.invariant
    (ap (λ (ws : List Word). row_group n (texts_of ws)) (c.row-item.is ∙ get_or_default rows i row [] c.loop-row-test.true))
    c.in_ok-push_group.ensures

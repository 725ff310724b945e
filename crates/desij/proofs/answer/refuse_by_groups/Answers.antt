use Rattle.desij.proofs.ShownLemmas.{shown}
use Rattle.desij.proofs.answer.refuse_by_groups.Goals as goal

pub groups_text-requires : goal.groups_text-requires
groups_text-requires c = shown c.args.spec.now.net c.args.partition.now c.args.error c.net-net.ensures.spec.is_net c.requires

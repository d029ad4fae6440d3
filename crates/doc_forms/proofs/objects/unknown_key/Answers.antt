use Rattle.std.proofs.Common.{rules}
use Rattle.doc_forms.proofs.Members.{keys_of-members_view}
use Rattle.doc_forms.proofs.objects.unknown_key.Goals as goal

pub loop-key-init : goal.loop-key-init
loop-key-init c = rw (keys_of-members_view c.args.members.now.entries) (search rules)

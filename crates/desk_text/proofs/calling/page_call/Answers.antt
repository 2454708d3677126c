use Rattle.std.proofs.Common.{refl}
use Rattle.desk_text.proofs.calling.page_call.Goals as goal

pub returns : goal.returns
returns g c = (c.in_ok-text.text, refl)

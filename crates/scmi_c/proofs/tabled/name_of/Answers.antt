use Rattle.scmi_c.proofs.TableLemmas.{name_utf8}
use Rattle.scmi_c.proofs.tabled.name_of.Goals as goal

pub from_utf8_unchecked-text-requires : goal.from_utf8_unchecked-text-requires
from_utf8_unchecked-text-requires c =
    name_utf8 c.args.name.now c.name_length.result c.requires.named

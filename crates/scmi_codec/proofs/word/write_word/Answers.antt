use Rattle.scmi_codec.proofs.WordLemmas.{put_mid-put_word}
use Rattle.scmi_codec.proofs.word.write_word.Goals as goal

pub returns : goal.returns
returns c = put_mid-put_word _ _ _ _ c.requires c.write_u32.ensures

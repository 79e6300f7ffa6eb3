use Rattle.std.proofs.Common.{◌∙◌, ap}
use Rattle.scmi_codec.specs.Header.{header_of}
use Rattle.scmi_codec.proofs.HeaderLemmas.{shifted_or-word, header_of-header_word}
use Rattle.scmi_codec.proofs.header.Header.pack.Goals as goal

pub returns-clause-word : goal.returns-clause-word
returns-clause-word c =
    let w = c.self.invariant in
    rw (
      ← c.self.view_is,
      c.from.ensures,
      c.from-2.ensures,
      c.from-3.ensures,
      c.from-4.ensures,
      c.from-5.ensures,
    )
    (shifted_or-word _ _ _ _ _ w.reserved w.token w.protocol w.kind w.id)

pub returns-clause-back : goal.returns-clause-back
returns-clause-back c =
    ap header_of (returns-clause-word c)
    ∙ rw (← c.self.view_is) (header_of-header_word _ c.self.invariant)

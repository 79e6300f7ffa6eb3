use Rattle.std.proofs.Common.{◌≡◌, refl}
use Rattle.scmi_codec.specs.Header.{header_of}
use Rattle.scmi_codec.proofs.HeaderLemmas.{header_word-header_of}
use Rattle.scmi_codec.proofs.AreaLemmas.{area_after_reply, StandsWithin-replied, kept-replied}
use Rattle.scmi_codec.proofs.area_writer.write_parts.Goals as goal

pub returns-clause-written : goal.returns-clause-written
returns-clause-written c =
    rw (
      c.write_word-3.ensures,
      c.write_payload.ensures.written,
      c.write_word-2.ensures,
      c.write_word.ensures,
      header_word-header_of c.args.header c.ranges.header.fits,
    ) refl

pub returns-clause-stands : goal.returns-clause-stands
returns-clause-stands c =
    let words = c.args.words.now in
    let e : c.write_word-3.new.bytes
    ≡ area_after_reply c.args.area.now c.args.status c.args.header words =
    rw (
      c.write_word-3.ensures,
      c.write_payload.ensures.written,
      c.write_word-2.ensures,
      c.write_word.ensures,
    ) refl in
    rw e (λ most within. StandsWithin-replied most c.args.area.now
    (header_of c.args.header) c.args.status c.args.header words c.requires.room
    c.requires.few within c.write_payload.ensures.words c.ranges.status.fits
    c.ranges.header.fits refl)

pub returns-clause-rest : goal.returns-clause-rest
returns-clause-rest c =
    let words = c.args.words.now in
    let e : c.write_word-3.new.bytes
    ≡ area_after_reply c.args.area.now c.args.status c.args.header words =
    rw (
      c.write_word-3.ensures,
      c.write_payload.ensures.written,
      c.write_word-2.ensures,
      c.write_word.ensures,
    ) refl in
    rw e (λ i away.
    kept-replied c.args.area.now c.args.status c.args.header words i c.requires.room away)

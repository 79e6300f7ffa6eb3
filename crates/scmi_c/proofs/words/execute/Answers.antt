use Rattle.std.proofs.Common.{rules, ◌≡◌, ◌<◌, ℕ, ◌+◌, List, ◌∷◌, ◌++◌, drop, length, length-drop, slice_index, subst, sym, arith}
use Rattle.scmi_codec.specs.Area.{message_of}
use Rattle.scmi_core.specs.declared.event.Event.{Event}
use Rattle.scmi_c.specs.Standing.{board_of}
use Rattle.scmi_c.specs.Words.{frame_in}
use Rattle.scmi_c.proofs.WordReplies.{fitting-replied, reply-room, words-header, written-answer}
use Rattle.scmi_c.proofs.words.execute.Goals as goal

pub put_words-requires-clause-room : goal.put_words-requires-clause-room
put_words-requires-clause-room c =
    let board = board_of c.args.held.now in
    let agent = c.args.agent in
    let message : List ℕ = c.args.message.now in
    let h : List Event = c.stand.ensures.0 in
    let few = c.requires.fits.few in
    let enough = c.requires.fits.enough in
    let same : c.as_slice.result.now ≡ c.command.new.reply.payload.items = search rules in
    subst (λ (items : List ℕ). length items < length c.args.reply.now) (sym same)
    (reply-room board agent h (frame_in message) c.command.result c.command.new.reply
    (length c.args.reply.now)
    c.requires.valid (omega (arith, enough)) (search rules)
    (fitting-replied board agent h (message_of (slice_index message 0) (drop 1 message))
    (omega (arith, few, length-drop 1 message))))

pub returns-clause-answered : goal.returns-clause-answered
returns-clause-answered c =
    let board = board_of c.args.held.now in
    let agent = c.args.agent in
    let message : List ℕ = c.args.message.now in
    let header : ℕ = slice_index message 0 in
    let payload : List ℕ = drop 1 message in
    let fits = c.requires.fits in
    let few = fits.few in
    let before = c.args.reply.now in
    let count = c.put_words.result in
    let after = c.put_words.new.words in
    let same : c.as_slice.result.now ≡ c.command.new.reply.payload.items = search rules in
    record {
      answer = λ h at.
          written-answer board agent h
          (frame_in message) c.command.result c.command.new.reply header count before after
          (search rules)
          (fitting-replied board agent h (message_of header payload)
          (omega (arith, few, length-drop 1 message)))
          (words-header board agent h header payload c.command.new.reply (search rules))
          (subst (λ (items : List ℕ). count ≡ 1 + length items) same c.put_words.ensures.count)
          (subst (λ (items : List ℕ). after ≡ (header ∷ items) ++ drop (1 + length items) before)
          same c.put_words.ensures.written);
      event = search rules;
    }

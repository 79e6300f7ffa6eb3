use Rattle.std.proofs.Common.{rules, ◌≡◌, None, length, subst, arith}
use Rattle.scmi_codec.specs.ChannelArea.{channel_waiting, room_for}
use Rattle.scmi_c.specs.Standing.{board_of}
use Rattle.scmi_c.proofs.Areas.{first-within, free-is, has-room, not-refused}
use Rattle.scmi_c.proofs.area.post_next.Goals as goal

pub returns-in-Ok-clause-ok : goal.returns-in-Ok-clause-ok
returns-in-Ok-clause-ok c = record {
  message = c.in-Some.first.now;
  first = λ h at. search rules;
  free = free-is (channel_waiting c.args.area.now) c.is_channel_free.result c.in-Ok-true.field-0
      (c.is_channel_free.ensures.ok c.requires.size) c.in-Ok-true.is (search rules);
  area = search rules;
}

pub returns-in-Ok-clause-not_free : goal.returns-in-Ok-clause-not_free
returns-in-Ok-clause-not_free c = λ h at.
    let free : channel_waiting c.args.area.now ≡ None =
    free-is (channel_waiting c.args.area.now) c.is_channel_free.result c.in-Ok-true.field-0
    (c.is_channel_free.ensures.ok c.requires.size) c.in-Ok-true.is (search rules) in
    ((λ e. absurd (cc)), (λ both. absurd (both.1 free)))

pub returns-in-Err-clause-not_free : goal.returns-in-Err-clause-not_free
returns-in-Err-clause-not_free c = λ h at.
    let board = board_of c.args.held.now in
    let message = c.in-Some.first.now in
    let valid = c.in_ok-check_agent.ensures.valid in
    let within = first-within board c.args.agent h message valid at.0.legal (search rules) in
    let size =
    subst (λ m. c.write_channel_message.result ≡ room_for (length m.payload.items) c.args.area.now)
    c.copy_to.ensures
    c.write_channel_message.ensures.size in
    let room =
    has-room c.args.held.now c.args.agent (length c.args.area.now) valid c.requires.room in
    absurd
    (not-refused c.write_channel_message.result c.in-Err.field-0
    (length message.payload.items) c.args.area.now
    c.requires.size (omega (arith, within, room)) size c.in-Err.is)

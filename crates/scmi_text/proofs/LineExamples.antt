-- Lines of runs, computed.
use Rattle.std.proofs.Common.{◌≡◌, [], ◌∷◌, flat_map, true, false, None, Some, Ok, Err, refl}
use Rattle.std.specs.Prelude.{codes}
use Rattle.std.specs.Fmt.{digits}
use Rattle.scmi_codec.specs.declared.frame.Frame.TheVariants.{Good, Malformed}
use Rattle.scmi_codec.specs.declared.frame.Answer.TheVariants.{Reply, Released, ChannelError}
use Rattle.scmi_link.specs.declared.close_error.CloseError.TheVariants.{InService, ReplyWaiting}
use Rattle.scmi_link.specs.declared.closing.Closing.TheVariants.{Idle, Withdrawn}
use Rattle.scmi_link.specs.declared.collected.Collected.TheVariants as collected
use Rattle.scmi_link.specs.declared.post_error.PostError.TheVariants as post
use Rattle.scmi_io.specs.Filled.{filled}
use Rattle.scmi_link.specs.declared.flushed.Flushed.TheVariants as flushed
use Rattle.scmi_link.specs.declared.served.Served.TheVariants as served
use Rattle.scmi_link.specs.declared.shut_error.ShutError.TheVariants as shut
use Rattle.scmi_link.specs.declared.line.Line.TheVariants as line
use Rattle.scmi_text.specs.StepHead.{raw_with}
use Rattle.scmi_text.specs.ScriptLine.{lines_text}
use Rattle.scmi_text.specs.StepLine.{step_text}
use Rattle.scmi_text.specs.declared.step_line.StepLine.TheVariants as step

-- posts, and what an agent collects and takes
each_post : flat_map step_text
    (step.Token 1 7 ∷ step.Posted 2 ∷ step.NotPosted 1 post.Outstanding ∷ step.NotPosted 1
    post.Closed ∷ step.NotPosted 1 post.Full ∷ step.NotPosted 1 post.WellFormed ∷ [])
    ≡ codes
    "1 token 7\n2 posted\n1 post outstanding\n1 post closed\n1 post full\n1 post well-formed\n"
unfolding filled digits
each_post = refl

each_collect : flat_map step_text (step.Collected 1 collected.Nothing
    ∷ step.Collected 1 (collected.Got (Reply (raw_with 0x4404 (7 ∷ 0x40000000 ∷ []))))
    ∷ step.Collected 1 (collected.Got Released) ∷ step.Collected 1 (collected.Got ChannelError)
    ∷ step.Collected 1 collected.Closed ∷ [])
    ≡ codes "1 nothing\n1 reply 0x00004404 0x00000007 0x40000000\n1 released\n1 error\n1 closed\n"
unfolding filled digits
each_collect = refl

each_p2a : flat_map step_text (step.P2a 2 None ∷ step.P2a 2 (Some (Good (raw_with 0x4604 (7 ∷ []))))
    ∷ step.P2a 2 (Some (Malformed 3 0)) ∷ [])
    ≡ codes "2 p2a none\n2 p2a 0x00004604 0x00000007\n2 p2a error\n"
unfolding filled digits
each_p2a = refl

-- calls of the platform, closes, and the end of a run
each_platform_call : flat_map step_text
    (step.Served 1 served.Nothing ∷ step.Served 1 served.Done ∷ step.Flushed 2 flushed.Nothing
    ∷ step.Flushed 2 flushed.Waiting ∷ step.Flushed 2 flushed.Posted ∷ step.Flushed 2 flushed.Closed
    ∷ step.Advanced true ∷ step.Advanced false ∷ step.AdvanceFailed true ∷ step.AdvanceFailed false
    ∷ step.Reported true ∷ step.Reported false ∷ step.Restarted 2 ∷ step.Trace 12 ∷ [])
    ≡ codes
    "serve 1 nothing\nserve 1 done\nflush 2 nothing\nflush 2 waiting\nflush 2 posted\nflush 2 closed\nadvance yes\nadvance no\nadvance failed yes\nadvance failed no\nreport yes\nreport no\nrestart 2 done\ntrace 12\n"
unfolding filled digits
each_platform_call = refl

each_close : flat_map step_text
    (step.Closed 1 (Ok Idle) ∷ step.Closed 1 (Ok Withdrawn) ∷ step.Closed 1 (Err InService)
    ∷ step.Closed 1 (Err ReplyWaiting) ∷ step.Shut 2 (Ok tt) ∷ step.Shut 2 (Err shut.InService)
    ∷ step.Shut 2 (Err shut.ReplyWaiting) ∷ step.Shut 2 (Err shut.NoAgent) ∷ [])
    ≡ codes
    "1 close idle\n1 close withdrawn\n1 close in-service\n1 close reply-waiting\nshut 2 ok\nshut 2 in-service\nshut 2 reply-waiting\nshut 2 no-agent\n"
unfolding filled digits
each_close = refl

-- lines of an agent that runs in threads
each_script_line : lines_text 3 (line.Got (record { items = 0 ∷ 7 ∷ [] }) ∷ line.Error
    ∷ line.Closed ∷ line.NotPosted post.Full ∷ line.Limit ∷ line.UntilOk ∷ line.UntilLimit
    ∷ line.P2a (Malformed 3 0) ∷ line.Close Idle ∷ line.NotClosed InService ∷ [])
    ≡ codes
    "3 got 0x00000000 0x00000007\n3 error\n3 closed\n3 post full\n3 limit\n3 until ok\n3 until limit\n3 p2a error\n3 close idle\n3 close in-service\n"
unfolding filled digits
each_script_line = refl

-- The numbers that a program in C is given, each as include/scmi_agent.h has it.
use Rattle.std.proofs.Common.{◌≡◌, refl}
use Rattle.scmi_agent_c.specs.declared.code.TheConstants.{DONE, OUTSTANDING, NOT_FREE, NOT_POSTED, NOTHING, CHANNEL_ERROR, MALFORMED, FOREIGN, WRONG_WORDS, UNKNOWN_STATUS}
use Rattle.scmi_agent_c.specs.declared.message.TheConstants.{STATE_SET, RATE_SET, STATE_CHANGED}

done : DONE ≡ 0
done = refl

outstanding : OUTSTANDING ≡ 1
outstanding = refl

not_free : NOT_FREE ≡ 2
not_free = refl

not_posted : NOT_POSTED ≡ 3
not_posted = refl

nothing : NOTHING ≡ 4
nothing = refl

channel_error : CHANNEL_ERROR ≡ 5
channel_error = refl

malformed : MALFORMED ≡ 6
malformed = refl

foreign : FOREIGN ≡ 7
foreign = refl

wrong_words : WRONG_WORDS ≡ 8
wrong_words = refl

unknown_status : UNKNOWN_STATUS ≡ 9
unknown_status = refl

state_set : STATE_SET ≡ 1
state_set = refl

rate_set : RATE_SET ≡ 2
rate_set = refl

state_changed : STATE_CHANGED ≡ 3
state_changed = refl

-- Replies of a session, and its phases.
use Rattle.std.specs.Prelude.{◌≡◌, ℕ, ◌≤◌, Option, Some, None}
use Rattle.cedar_language_server.specs.declared.messages.Id.{Id}
use Rattle.cedar_language_server.specs.declared.messages.Message.{Message}
use Rattle.cedar_language_server.specs.declared.messages.Message.TheVariants as Message
use Rattle.cedar_language_server.specs.declared.replies.Reply.{Reply}
use Rattle.cedar_language_server.specs.declared.sessions.Phase.{Phase}
use Rattle.cedar_language_server.specs.declared.sessions.Phase.TheVariants as Phase

-- there is a reply with this id
abbrev pub has_id : Id → Option Reply → Type 0
has_id id None = ⊥
has_id id (Some reply) = reply.id ≡ id

-- a request has one reply, with its id, and so has a message of no known kind; a notification and an answer have none
abbrev pub IsReplyTo : Message → Option Reply → Type 0
IsReplyTo (Message.Request id call) reply = has_id id reply
IsReplyTo (Message.Notification call) reply = reply ≡ None
IsReplyTo Message.Answer reply = reply ≡ None
IsReplyTo (Message.Odd id) reply = has_id id reply

-- the number of a phase, in the order in which a session reaches them
abbrev pub step_of : Phase → ℕ
step_of Phase.Fresh = 0
step_of Phase.Serving = 1
step_of Phase.ShutDown = 2

-- a session that serves is never fresh again, and one that is shut down stays so
abbrev pub IsNoStepBack : Phase → Phase → Type 0
IsNoStepBack before after = step_of before ≤ step_of after

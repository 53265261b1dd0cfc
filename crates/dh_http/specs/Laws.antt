-- A stream has one reply.
use Rattle.std.specs.Prelude.{◌≡◌, ℕ, List}
use Rattle.dh_ports.specs.declared.worlds.Got.{Got}
use Rattle.dh_http.specs.Reply.{Replies}

-- a stream has one reply
abbrev pub OneReply : Type 0
OneReply = (stream : List ℕ) (a b : Got) → Replies stream a → Replies stream b → a ≡ b

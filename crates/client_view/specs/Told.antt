-- What the arguments of one command tell.
use Rattle.std.specs.Prelude.{List, [], ◌∷◌, Option, Some, None}
use Rattle.reply_kinds.specs.declared.Reply.{Reply}
use Rattle.reply_kinds.specs.declared.Reply.TheVariants as reply

-- the reply that was read, if one was
abbrev pub told : Option Reply → List Reply
told None = []
told (Some r) = r ∷ []

-- a reply that begins no login
abbrev pub IsNoLogin : Reply → Type 0
IsNoLogin (reply.Accepted user) = ⊥
IsNoLogin r = Unit {0}

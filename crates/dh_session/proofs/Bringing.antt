-- What a fetch and a look bring may be delivered.
use Rattle.std.proofs.lemmas.Bool.{false≢true}
use Rattle.std.specs.Prelude.{ℕ, List, Option, Result, Ok, Err, IfOk}
use Rattle.dh_syntax.specs.declared.locations.Digest.{Digest}
use Rattle.dh_syntax.specs.declared.locations.Loc.{Loc}
use Rattle.dh_ports.specs.declared.worlds.Got.{Got}
use Rattle.dh_record.specs.Brought.{BringsText, BringsLook}
use Rattle.dh_record.specs.declared.news.News.{News}
use Rattle.dh_record.specs.declared.news.News.TheVariants as news
use Rattle.dh_record.specs.Ends.{DoneParts}
use Rattle.dh_shared.specs.Turns.{Brings}
use Rattle.dh_work.specs.Brings.{TellsFailure}

text_one : (told : Loc → Option Got) (shelved : Digest → Option (Option (List ℕ))) (n : News) → BringsText told n → Brings told shelved n
text_one told shelved (news.Fetched l got scan) b = b
text_one told shelved (news.Looked d look) b = absurd b
text_one told shelved (news.Finished done) b = absurd b

look_one : (told : Loc → Option Got) (shelved : Digest → Option (Option (List ℕ))) (n : News) → BringsLook shelved n → Brings told shelved n
look_one told shelved (news.Fetched l got scan) b = absurd b
look_one told shelved (news.Looked d look) b = b
look_one told shelved (news.Finished done) b = absurd b

pub text_brings : {E : Type 0} (told : Loc → Option Got) (shelved : Digest → Option (Option (List ℕ))) (r : Result News E)
    → IfOk r (λ n. BringsText told n) → IfOk r (Brings told shelved)
text_brings told shelved (Ok n) b = text_one told shelved n b
text_brings told shelved (Err e) b = b

pub look_brings : {E : Type 0} (told : Loc → Option Got) (shelved : Digest → Option (Option (List ℕ))) (r : Result News E)
    → IfOk r (λ n. BringsLook shelved n) → IfOk r (Brings told shelved)
look_brings told shelved (Ok n) b = look_one told shelved n b
look_brings told shelved (Err e) b = b

-- an outcome tells no failure
pub outcome_tells : (d : DoneParts) (before after : ℕ) → TellsFailure (news.Finished d) before after
outcome_tells d before after e = absurd (false≢true e)

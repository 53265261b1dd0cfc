-- What is told of one location more.
use Rattle.std.specs.Prelude.{◌≡◌, Bool, true, false, ◌||◌, List, [], ◌∷◌, ◌++◌, refl}
use Rattle.std.proofs.Common.{ap, sym, ◌∙◌}
use Rattle.dh_command.specs.declared.statuses.Status.{Status}
use Rattle.dh_command.specs.declared.statuses.Status.TheVariants as status
use Rattle.dh_script_laws.specs.Scripts.{first_fault}
use Rattle.dh_watch_disk.specs.declared.told.Told.{Told}
use Rattle.dh_watch_disk.specs.Showing.{are_open, is_open, status_of, told_status}

first_fault-assoc : (s t u : Status) → first_fault (first_fault s t) u ≡ first_fault s (first_fault t u)
first_fault-assoc status.Ok t u = refl
first_fault-assoc s t u = refl

first_fault-end : (s : Status) → first_fault s status.Ok ≡ s
first_fault-end status.Ok = refl
first_fault-end s = refl

pub status_more : (ts : List Told) (t : Told) → status_of (ts ++ t ∷ []) ≡ first_fault (status_of ts) (told_status t)
status_more [] t = first_fault-end (told_status t)
status_more (x ∷ ts) t = ap (first_fault (told_status x)) (status_more ts t) ∙ sym (first_fault-assoc (told_status x) (status_of ts) (told_status t))

or-end : (b : Bool) → b || false ≡ b
or-end true = refl
or-end false = refl

or-assoc : (a b c : Bool) → (a || b) || c ≡ a || (b || c)
or-assoc true b c = refl
or-assoc false b c = refl

pub open_more : (ts : List Told) (t : Told) → are_open (ts ++ t ∷ []) ≡ are_open ts || is_open t
open_more [] t = or-end (is_open t)
open_more (x ∷ ts) t = ap (λ b. is_open x || b) (open_more ts t) ∙ sym (or-assoc (is_open x) (are_open ts) (is_open t))

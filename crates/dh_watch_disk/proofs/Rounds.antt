-- Rounds of asks with edits between them.
use Rattle.std.proofs.Common.{◌≡◌, ◌⊎◌, inl, inr, ℕ, ◌+◌, ◌-◌, ◌^◌, ◌<◌, ◌≤◌, Bool, true, false, List, [], ◌++◌, IfErr, IfOk, IsErrAnd, Option, Result, Ok, Err, length, sym, subst, append-nil, arith, refl}
use Rattle.std.proofs.lemmas.Bool.{OnFalse_at, OnTrue_at, cases_lt}
use Rattle.std.specs.Bool.{OnFalse, OnTrue}
use Rattle.dh_command.specs.declared.statuses.Status.{Status}
use Rattle.dh_command.specs.declared.statuses.Status.TheVariants as status
use Rattle.dh_command.specs.Lines.{usage_line}
use Rattle.dh_command.specs.Responses.{line}
use Rattle.dh_ports.specs.Counts.{Rose, one_more}
use Rattle.dh_ports.specs.declared.desks.DeskError.{DeskError}
use Rattle.dh_ports.specs.declared.desks.DeskError.TheVariants as errors
use Rattle.dh_script_laws.specs.Answering.{Failed, Memory}
use Rattle.dh_streams.specs.Deliveries.{Delivers}
use Rattle.dh_streams.specs.Streams.{Gains, Output, output}
use Rattle.dh_streams.proofs.Joining.{gains-both, gains-nothing, gains-stops}
use Rattle.dh_syntax.specs.declared.locations.Loc.{Loc}
use Rattle.dh_watching.specs.Steps.{State}
use Rattle.dh_watch_disk.specs.declared.told.Told.{Told}
use Rattle.dh_watch_disk.specs.declared.told.Halt.{Halt}
use Rattle.dh_watch_disk.specs.declared.told.Halt.TheVariants as halts
use Rattle.dh_watch_disk.specs.FilesRuns as runs
use Rattle.dh_watch_disk.specs.FilesRuns.{Passes, PassesAll, Pausing, RunsFiles, pausing}
use Rattle.dh_watch_disk.specs.Showing.{Edits, edited, unedited, Shows, ShowsPart, all_asked, are_open, asked_again, begins, part_asked, part_asked_again, rested, status_of}
use Rattle.dh_watch_disk.specs.Words.{IsMisused, Name}
use Rattle.dh_watch_disk.specs.Inside.Rounds as rounds
use Rattle.dh_watch_disk.specs.Inside.Rounds.{AfterEdit, AfterLook, EndsSo, Halting, HasAsked, HasHalted, HasLooked, HasShown, HasShownAll, HasShownPart, HasStopped, IsRefusedEdit, ToldWord, UpTo, halt_of}

-- more is written after this
up_to : (halt : Halt) (w0 w1 w2 : Option (List ℕ)) (f0 f1 f2 : ℕ) (x y : List ℕ) → Gains (output w0 w1 f0 f1) x → UpTo halt (output w1 w2 f1 f2) y
    → UpTo halt (output w0 w2 f0 f2) (x ++ y)
up_to halts.Cut w0 w1 w2 f0 f1 f2 x y g h = gains-stops w0 w1 w2 f0 f1 f2 x y g h
up_to halts.Failed w0 w1 w2 f0 f1 f2 x y g h = gains-both w0 w1 w2 f0 f1 f2 x y g h
up_to halts.Memory w0 w1 w2 f0 f1 f2 x y g h = gains-both w0 w1 w2 f0 f1 f2 x y g h

-- ---- edits

-- one edit after others
pub both_edited : {a b c : State} → Edits a b → Edits b c → Edits a c
both_edited e unedited = e
both_edited e (edited l d f) = edited l (both_edited e d) f

-- an edit that was refused after others
pub refused_later : (a b c : State) (halt : Halt) → Edits a b → IsRefusedEdit b c halt → IsRefusedEdit a c halt
refused_later a b c halt e h = record { last = h.last; edits = both_edited e h.edits; halting = h.halting; uncut = h.uncut }

pub refused_now : (a b : State) → a.faults ≤ b.faults → (e : DeskError) → (e ≡ errors.Failed → Rose a.faults b.faults) → IsRefusedEdit a b (halt_of e)
refused_now a b le errors.Failed rose = record { last = a; edits = unedited; halting = (le, rose refl); uncut = λ e. cc }
refused_now a b le errors.Memory rose = record { last = a; edits = unedited; halting = le; uncut = λ e. cc }

-- memory was wanting for one
pub lacked : (a : State) → IsRefusedEdit a a halts.Memory
lacked a = record { last = a; edits = unedited; halting = omega arith; uncut = λ e. cc }

-- the halt is handed on
module _ (a b : State) (halt : Halt) (refused : IsRefusedEdit a b halt) where
  pub edit_halted : {X : Type 0} (r : Result X Halt) → IsErrAnd r (λ h. h ≡ halt) → AfterEdit a b r
  edit_halted (Ok x) is = absurd is
  edit_halted (Err h) is = subst (IsRefusedEdit a b) (sym is) refused

  pub look_halted : (r : Result Bool Halt) → IsErrAnd r (λ h. h ≡ halt) → AfterLook a b r
  look_halted (Ok x) is = absurd is
  look_halted (Err h) is = subst (IsRefusedEdit a b) (sym is) refused

-- files were looked at, of which any were others
edits_of : (a b : State) (any : Bool) → AfterLook a b (Ok any) → Edits a b
edits_of a b true e = e
edits_of a b false e = subst (Edits a) (sym e) unedited

-- an edit that was refused
refused_edit : (locs : List Loc) (before : List Told) (a b : State) (w : Option (List ℕ)) (f : ℕ) (halt : Halt) → IsRefusedEdit a b halt
    → HasStopped locs before a b (output w w f f) halt
refused_edit locs before a b w f halts.Cut h = absurd (h.uncut refl)
refused_edit locs before a b w f halts.Failed h =
    (h.last, h.edits, record { n = 0; last = h.last; now = []; bytes = []; asks = begins; writes = gains-nothing w f; halting = h.halting })
refused_edit locs before a b w f halts.Memory h =
    (h.last, h.edits, record { n = 0; last = h.last; now = []; bytes = []; asks = begins; writes = gains-nothing w f; halting = h.halting })

-- the same, handed on
pub edit_stopped : {X : Type 0} (locs : List Loc) (before : List Told) (a b : State) (w : Option (List ℕ)) (f : ℕ) (halt : Halt) → IsRefusedEdit a b halt
    → (r : Result X Halt) → IsErrAnd r (λ h. h ≡ halt) → IfErr r (HasStopped locs before a b (output w w f f))
edit_stopped locs before a b w f halt refused (Ok x) is = tt
edit_stopped locs before a b w f halt refused (Err h) is = subst (HasStopped locs before a b (output w w f f)) (sym is) (refused_edit locs before a b w f halt refused)

-- ---- looks

-- no file was another
pub rested_looked : (locs : List Loc) (before now : List Told) (a b : State) (w : Option (List ℕ)) (f : ℕ) (any : Bool) → any ≡ false → AfterLook a b (Ok any)
    → are_open before ≡ false → now ≡ before → HasLooked locs before a b (output w w f f) now
rested_looked locs before now a b w f any none look shut same = rounds.rests (subst (λ x. AfterLook a b (Ok x)) none look) shut same (gains-nothing w f)

-- locations were asked after edits
pub asked_looked : {A E : Type 0} (items : A → List Told) (locs : List Loc) (before slice : List Told) (a m b : State) (out : Output) → slice ≡ before → (any : Bool)
    → AfterLook a m (Ok any) → (r : Result A E) → IfOk r (λ t. HasAsked locs slice m b (length locs) out (items t)) → IfOk r (λ t. HasLooked locs before a b out (items t))
asked_looked items locs before slice a m b out e any d (Ok t) h = rounds.asks m (edits_of a m any d) (subst (λ s. HasAsked locs s m b (length locs) out (items t)) e h)
asked_looked items locs before slice a m b out e any d (Err x) h = tt

-- they were not all asked
pub halted_looked : {A : Type 0} (locs : List Loc) (before slice : List Told) (a m b : State) (out : Output) → slice ≡ before → (any : Bool)
    → AfterLook a m (Ok any) → (r : Result A Halt) → IfErr r (HasHalted locs slice m b out) → IfErr r (HasStopped locs before a b out)
halted_looked locs before slice a m b out e any d (Ok t) h = tt
halted_looked locs before slice a m b out e any d (Err x) h = (m, edits_of a m any d, subst (λ s. HasHalted locs s m b out x) e h)

module _ (locs : List Loc) (a b : State) (out : Output) where
  pub shown_first : (now : List Told) → HasAsked locs [] a b (length locs) out now → HasShown locs a 0 b out now
  shown_first now h = record { bytes = h.bytes; shows = all_asked h.asks; gains = h.gains }

  pub halted_first : (halt : Halt) → HasHalted locs [] a b out halt → HasShownPart locs a b out halt
  halted_first halt h = record { last = h.last; bytes = h.bytes; shows = part_asked h.asks; writes = h.writes; halting = h.halting }

module _ (locs : List Loc) (a b c : State) (looks : ℕ) (now : List Told) (w0 w1 w2 : Option (List ℕ)) (f0 f1 f2 : ℕ) (h : HasShown locs a looks b (output w0 w1 f0 f1) now) where
  pub shown_again : (next : List Told) → HasLooked locs now b c (output w1 w2 f1 f2) next → HasShown locs a (looks + 1) c (output w0 w2 f0 f2) next
  shown_again next (rounds.rests still shut same g) = record {
    bytes = h.bytes;
    shows = subst (λ s. Shows locs a (looks + 1) s next h.bytes) (sym still) (subst (λ t. Shows locs a (looks + 1) b t h.bytes) (sym same) (rested h.shows shut));
    gains = subst (Gains (output w0 w2 f0 f2)) (append-nil h.bytes) (gains-both w0 w1 w2 f0 f1 f2 h.bytes [] h.gains g);
  }
  shown_again next (rounds.asks d e k) = record {
    bytes = h.bytes ++ k.bytes;
    shows = asked_again h.shows e k.asks;
    gains = gains-both w0 w1 w2 f0 f1 f2 h.bytes k.bytes h.gains k.gains;
  }

  pub halted_again : (halt : Halt) → HasStopped locs now b c (output w1 w2 f1 f2) halt → HasShownPart locs a c (output w0 w2 f0 f2) halt
  halted_again halt (d, e, k) = record {
    last = k.last;
    bytes = h.bytes ++ k.bytes;
    shows = part_asked_again h.shows e k.asks;
    writes = up_to halt w0 w1 w2 f0 f1 f2 h.bytes k.bytes h.gains k.writes;
    halting = k.halting;
  }

-- ---- pauses

pub none_passed : (n : ℕ) → Passes n n 0
none_passed n = inl (omega arith)

-- one more has passed, which is counted or not
passed_more : (n m k looks : ℕ) → (m < 2 ^ 64 - 1) ⊎ (2 ^ 64 - 1 ≤ m) → looks + n ≡ m → k ≡ one_more m → Passes n k (looks + 1)
passed_more n m k looks (inl p) e s = inl (omega (arith, p, e, s))
passed_more n m k looks (inr p) e s = inr (omega (arith, p, s))

pub one_passed : (n m k looks : ℕ) → Passes n m looks → (b : Bool) → b ≡ true → OnTrue b (k ≡ one_more m) → Passes n k (looks + 1)
one_passed n m k looks (inl e) b on s = passed_more n m k looks (cases_lt m (2 ^ 64 - 1)) e (OnTrue_at on s)
one_passed n m k looks (inr e) b on s = let one = OnTrue_at on s in inr (omega (arith, e, one))

module _ (locs : List Loc) (a b : State) (n m : ℕ) (out : Output) (now : List Told) (looks : ℕ) (h : HasShown locs a looks b out now) (passed : Passes n m looks) where
  -- none comes any more
  pub shown_all : (k : ℕ) (over : Bool) → (r : Bool) → r ≡ false → OnFalse r (k ≡ m) → OnFalse r (over ≡ true) → HasShownAll locs a b (pausing n k over) out now
  shown_all k over r off same end =
      record { looks = looks; shown = h; passes = (subst (λ x. Passes n x looks) (sym (OnFalse_at off same)) passed, inl (OnFalse_at off end)) }

  -- no more are counted
  pub shown_most : (over : Bool) → looks ≡ 2 ^ 64 - 1 → HasShownAll locs a b (pausing n m over) out now
  shown_most over most = record { looks = looks; shown = h; passes = (passed, inr most) }

-- ---- words that are wrong

pub told_word : (n : ℕ) (text : List ℕ) (out err : Output) (s : Status) → text ≡ line (usage_line n)
    → Delivers (record { out = []; err = text; status = status.Usage }) out err s → ToldWord n out err s
told_word n text out err s e d = inl (subst (λ t. Delivers (record { out = []; err = t; status = status.Usage }) out err s) e d)

pub misused : (words : List (List ℕ)) (a : State) (p : Pausing) (out err : Output) (s : Status) (n : ℕ) → IsMisused words n → ToldWord n out err s
    → RunsFiles words a a p out err s
misused words a p out err s n m (inl d) = runs.misuses n m refl d
misused words a p out err s n m (inr d) = runs.lacks refl d

-- ---- the whole run

module _ (words : List (List ℕ)) (locs : List Loc) (named : Name words locs) (a b : State) (p : Pausing) (out err : Output) (s : Status) where
  pub run_through : (now : List Told) → HasShownAll locs a b p out now → Gains err [] → s ≡ status_of now → RunsFiles words a b p out err s
  run_through now h g e = runs.shows locs h.looks now h.shown.bytes named h.shown.shows h.passes h.shown.gains g e

  pub run_halted : (halt : Halt) → HasShownPart locs a b out halt → EndsSo halt err s → RunsFiles words a b p out err s
  run_halted halts.Cut h e = runs.cut locs h.bytes named (subst (λ c. ShowsPart locs a c h.bytes) (sym h.halting) h.shows) h.writes e.0 e.1
  run_halted halts.Failed h e = runs.halts locs h.last h.bytes Failed named h.shows h.writes (inl refl) h.halting.0 (λ is. h.halting.1) e
  run_halted halts.Memory h e = runs.halts locs h.last h.bytes Memory named h.shows h.writes (inr refl) h.halting (λ is. absurd cc) e

use Rattle.std.proofs.Common.{◌≡◌, ap, sym, ◌∙◌, subst as along, arith}
use Rattle.std.specs.Prelude.{◌<◌, ℕ, true, false, [], ◌∷◌, length, map, reverse}
use Rattle.std.proofs.lemmas.List.{length-replicate, length-set}
use Rattle.std.proofs.lemmas.List.Elements.{All-nil, All-same}
use Rattle.dh_imports.specs.Resolver.{is_in}
use Rattle.dh_import_laws.proofs.Graph.{Trail, here, begins, follows, one_more}
use Rattle.dh_record.specs.Marks.{is_set, unseen}
use Rattle.dh_record.specs.Rows.{key_named}
use Rattle.dh_record.proofs.Latest.{latest}
use Rattle.dh_table.proofs.Looping.{To, unseen_all, marked_trail, loop_found}
use Rattle.dh_record.proofs.Marking.{nothing_set, fewer_unseen}
use Rattle.dh_table.proofs.Stepping.{all-push}
use Rattle.dh_table.proofs.search.loops.least_of_loop.Goals as goal

pub loop-marks-init : goal.loop-marks-init
loop-marks-init c =
    let keys = c.args.keys.now in
    let size = length c.args.marks.now in
    let all = unseen_all size in
    let none : c.clear-2.new.self.items ≡ [] = c.clear-2.ensures.items in
    record {
      inside = c.requires.inside;
      marks = ap length c.clear.ensures ∙ length-replicate size false;
      room = let e = ap unseen c.clear.ensures in let l = c.clear-2.ensures.len in omega arith;
      capacity = let l = c.clear-2.ensures.capacity in omega arith;
      trail = All-same (λ (n : ℕ). n < length keys) c.clear-2.new.self.items [] none (All-nil (λ (n : ℕ). n < length keys));
      stuck = λ s i. i;
      trailed = λ s i. along (λ ns. Trail (To keys c.args.texts.now c.args.looks.now s) (key_named keys c.args.first) (reverse (map (key_named keys) ns))) (sym none) begins;
      way = λ s i. here;
      marked = λ n h. absurd (nothing_set size n (along (λ bs. is_set bs n ≡ true) c.clear.ensures h));
    }

pub loop-marks-preserved : goal.loop-marks-preserved
loop-marks-preserved c =
    let keys = c.args.keys.now in
    let at = c.loop-marks.at in
    let inv = c.loop-marks.invariant in
    let pushed : reverse (map (key_named keys) c.put.new.v.items) ≡ key_named keys at ∷ reverse (map (key_named keys) c.loop-marks.trail.items) =
    ap (λ ns. reverse (map (key_named keys) ns)) c.put.ensures.items ∙ latest (key_named keys) c.loop-marks.trail.items at in
    let inside : at < length c.loop-marks.marks = let a = inv.inside in let b = inv.marks in let d = c.requires.marks in omega arith in
    let fewer = fewer_unseen c.loop-marks.marks at inside (sym c.loop-marks-test.ensures) in
    let unseen_is = ap unseen c.set.ensures in
    record {
      inside = c.blocking-at.ensures.inside;
      marks = ap length c.set.ensures ∙ length-set c.loop-marks.marks at true ∙ inv.marks;
      room = let a = inv.room in let b = c.put.ensures.len in omega arith;
      capacity = let a = inv.capacity in let b = c.put.ensures.room in omega arith;
      trail = all-push (λ (n : ℕ). n < length keys) c.loop-marks.trail.items c.put.new.v.items at c.put.ensures.items inv.trail inv.inside;
      stuck = λ s i. (c.blocking-at.ensures.stuck s (inv.stuck s i)).stuck;
      trailed =
          λ s i.
          along (λ ks. Trail (To keys c.args.texts.now c.args.looks.now s) (key_named keys c.blocking-at.result) ks) (sym pushed)
          (follows (c.blocking-at.ensures.stuck s (inv.stuck s i)).blocks (inv.trailed s i));
      way = λ s i. one_more (To keys c.args.texts.now c.args.looks.now s) (inv.way s i) (c.blocking-at.ensures.stuck s (inv.stuck s i)).blocks;
      marked =
          λ n h.
          along (λ ks. is_in (key_named keys n) ks ≡ true) (sym pushed)
          (marked_trail keys c.loop-marks.marks at (reverse (map (key_named keys) c.loop-marks.trail.items)) inv.marked n (along (λ bs. is_set bs n ≡ true) c.set.ensures h));
    }

pub returns-clause-least : goal.returns-clause-least
returns-clause-least c s i r =
    let keys = c.args.keys.now in
    let at = c.loop-marks.at in
    let inv = c.loop-marks.invariant in
    loop_found keys c.args.texts.now c.args.looks.now s (key_named keys c.args.first) (key_named keys at) (key_named keys c.least_back.result) (reverse (map (key_named keys) c.loop-marks.trail.items)) i (inv.trailed s i)
    (inv.marked at (sym c.loop-marks-test.ensures)) (inv.way s i) r (rw c.as_slice.ensures.value at c.least_back.ensures.least)

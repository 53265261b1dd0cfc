use Rattle.std.proofs.Common.{◌≡◌, ◌+◌, ◌-◌, suc, ap, sym, ◌∙◌, arith, string_bytes, map}
use Rattle.dh_files.specs.FileWords.{is_file, more_files}
use Rattle.dh_files.proofs.FileLists.{files_go, files_stop}
use Rattle.dh_files.proofs.words.check_more.Goals as goal

pub returns-then-not-is_file : goal.returns-then-not-is_file
returns-then-not-is_file c =
    files_stop string_bytes c.loop-word.left c.loop-word.number c.loop-word.word-index c.args.words.now c.word-item.result
    (more_files c.args.most c.args.at (map string_bytes c.args.words.now)) c.loop-word-test.true c.word-item.is
    (ap is_file (sym c.as_str.ensures.value) ∙ (sym c.is_file.ensures ∙ c.if-not-is_file.true)) c.loop-word.invariant.so_far

pub loop-word-preserved : goal.loop-word-preserved
loop-word-preserved c =
    let more : c.loop-word.left ≡ suc (c.loop-word.left - 1) = omega arith in
    record {
      counted = omega (arith, c.loop-word.invariant.counted, more);
      numbered = omega (arith, c.loop-word.invariant.numbered);
      so_far = files_go string_bytes c.loop-word.left (c.loop-word.left - 1) c.loop-word.number c.loop-word.word-index c.args.words.now c.word-item.result
          (more_files c.args.most c.args.at (map string_bytes c.args.words.now)) c.loop-word-test.true c.word-item.is more
          (ap is_file (sym c.as_str.ensures.value) ∙ (sym c.is_file.ensures ∙ c.if-not-is_file.false)) c.loop-word.invariant.so_far;
    }

use Rattle.std.proofs.Common.{◌∙◌, ap, sym}
use Rattle.dh_files.specs.Inside.Walked.{are_components, behind_slash}
use Rattle.dh_files.proofs.Walking.{file_walked}
use Rattle.dh_files.proofs.words.is_file.Goals as goal

pub returns : goal.returns
returns c = c.are_components.ensures ∙ ap are_components (c.behind_slash.ensures ∙ ap behind_slash c.as_bytes.ensures.value) ∙ sym (file_walked c.args.word.now)

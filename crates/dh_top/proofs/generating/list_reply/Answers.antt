use Rattle.std.proofs.Common.{refl, ap, ◌∙◌}
use Rattle.std.specs.Prelude.{count_by}
use Rattle.dh_shared.specs.Counting.{is_fetch_claim}
use Rattle.dh_top.specs.Generating.{with_fault}
use Rattle.dh_top.specs.Replies.{written}
use Rattle.dh_top.proofs.Filing.{ok_map}
use Rattle.dh_top.proofs.Generated.{counted_as}
use Rattle.dh_top.proofs.generating.list_reply.Goals as goal

pub returns-in-Ok : goal.returns-in-Ok
returns-in-Ok c =
    ok_map c.counted_reply.result
    (λ w u. (
      written c.in_ok-reply.reply,
      c.in_ok-reply.ensures,
      counted_as (written c.in_ok-reply.reply) (written w) _ _ _ _ _ c.in-Ok.is c.key_count.ensures (c.fetch_count-asked.ensures ∙ ap (count_by is_fetch_claim) c.history.ensures)
          c.as_slice.ensures.value u,
    ))
    c.counted_reply.ensures

pub returns-in_default : goal.returns-in_default
returns-in_default c = (written c.in_ok-reply.reply, c.in_ok-reply.ensures, with_fault c.in_default.not-Ok refl)

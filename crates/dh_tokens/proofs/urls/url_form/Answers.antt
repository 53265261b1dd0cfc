use Rattle.std.proofs.Common.{◌∙◌}
use Rattle.dh_tokens.specs.Inside.Urls.{scheme_len, scheme_loc}
use Rattle.dh_tokens.proofs.UrlLaws.{scheme-some, url_form-read, url_len}
use Rattle.dh_tokens.proofs.urls.url_form.Goals as goal

pub returns-clause-value : goal.returns-clause-value
returns-clause-value c =
    let total = c.in_ok-comps.total in
    let len = c.in_ok-query.query_len in
    url_len c.loc.result c.len.result (scheme_len c.args.scheme) c.args.host total len c.len.ensures
    ∙ url_form-read (scheme_loc c.args.scheme) (scheme_len c.args.scheme) c.args.host total c.args.rest.now c.after-behind.result.now c.after.result.now c.in_ok-host_text.host_text c.in_ok-comps.comps c.in_ok-comps-2.comps c.in_ok-query.query len c.loc.result
    c.after-behind.ensures c.in_ok-comps.ensures.value c.after.ensures c.in_ok-query.ensures.value c.in_ok-query.ensures.len (c.in_ok-host_text.ensures ∙ c.ascii_text.ensures ∙ c.up_to.ensures) c.in_ok-comps-2.ensures c.loc.ensures (scheme-some c.args.scheme)

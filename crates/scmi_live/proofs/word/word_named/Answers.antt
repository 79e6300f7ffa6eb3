use Rattle.std.proofs.Common.{map, string_bytes, ap, ◌∙◌}
use Rattle.scmi_live.specs.Names.{number_from}
use Rattle.scmi_live.proofs.NameLists.{clock_names, domain_names}
use Rattle.scmi_live.proofs.word.word_named.Goals as goal

pub returns-in-Domain : goal.returns-in-Domain
returns-in-Domain c =
    rw c.in-Domain.is (c.number_from-in-Domain.ensures
    ∙ ap (λ domains. number_from 0 c.args.item.now
    (map (λ domain. string_bytes domain.name) domains)) c.deref-in-Domain.ensures.value
    ∙ ap (number_from 0 c.args.item.now) (domain_names c.args.board.now.domains.items))

pub returns-in-Clock : goal.returns-in-Clock
returns-in-Clock c =
    rw c.in-Clock.is (c.number_from-in-Clock.ensures
    ∙ ap (λ clocks. number_from 0 c.args.item.now (map (λ clock. string_bytes clock.name) clocks))
    c.deref-in-Clock.ensures.value
    ∙ ap (number_from 0 c.args.item.now) (clock_names c.args.board.now.clocks.items))

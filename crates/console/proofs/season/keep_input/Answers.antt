use Rattle.std.proofs.Common.{◌≡◌, ◌++◌, Ok, string_bytes, sym, ap, ◌∙◌}
use Rattle.console.specs.Opened.{house_in, opening_text}
use Rattle.console.proofs.Streams.{house_kept, on_ok}
use Rattle.console.proofs.season.keep_input.Goals as goal

pub returns-in-Ok : goal.returns-in-Ok
returns-in-Ok g c =
    let account = c.open-account.result in
    let house : Ok c.in-Ok.house ≡ house_in c.args.input.now = sym c.in-Ok.is ∙ c.read_input-house.ensures in
    let told : string_bytes c.print_opening.new.out ≡ opening_text c.title.result.now (Ok c.in-Ok.house) =
    c.in_ok-print_opening.ensures ∙ ap (λ v. v ++ opening_text c.title.result.now c.read_input-house.result) c.new-out.ensures.bytes ∙ ap (λ v. opening_text c.title.result.now v) c.in-Ok.is in
    on_ok c.keep_events.result _ _
    (house_kept (g.W.Write.contents c.args.writer.now) (g.W.Write.contents c.write_out.new.writer) (g.W.Write.contents c.keep_events.new.writer) c.in-Ok.house account.house account.state c.args.input.now c.title.result.now (string_bytes c.print_opening.new.out) c.split_input.result.1.now house told c.title.ensures (ap (λ a. a.house) c.open-account.ensures.value) (ap (λ a. a.state) c.open-account.ensures.value) c.split_input.ensures.events c.in_ok-write_out.ensures.written)
    c.keep_events.ensures

-- `pages::columns::write_spaces` meets its contract: the front of the page is filled.
use Rattle.std.proofs.Common.{rules, ◌≡◌, ℕ, ap, sym, length, take, replicate, length-take-le, ◌∙◌, refl}
use Rattle.std.proofs.lemmas.List.{length-replicate}
use Rattle.rules.specs.JobFile.{space}
use Rattle.pages.proofs.columns.write_spaces.Goals as goal

pub returns : goal.returns
returns c =
    let front : length (take c.args.count c.args.page.now) ≡ c.args.count = length-take-le c.args.count c.args.page.now c.requires in
    let spaces : c.fill.new.self ≡ replicate c.args.count space =
    c.fill.ensures.after (λ y h. search rules) ∙ ap (λ (n : ℕ). replicate n space) front in
    record {
      count = sym (length-replicate c.args.count space);
      bytes = rw (spaces, length-replicate) refl;
    }

use Rattle.std.proofs.Common.{◌≡◌, ◌∙◌, ◌++◌, ℕ, List, OnOk, ap, append_assoc, rules, string_bytes, subst}
use Rattle.ttree_adapters.specs.Times.{civil_time_text, date_column, date_of, shown_at}
use Rattle.ttree_adapters.proofs.times.TimeColumns.push_utc.Goals as goal

pub returns-clause-text : goal.returns-clause-text
returns-clause-text c =
    let civil = shown_at c.args.moment.now in
    let out = string_bytes c.args.out.now in
    let date = date_column (date_of civil) c.args.self.now.date in
    let time = civil_time_text c.args.self.now.style.precision civil in
    let pushed : string_bytes c.push_date.new.out ≡ out ++ date = search rules in
    subst (λ (b : List ℕ). OnOk c.push_time.result (string_bytes c.push_time.new.out ≡ b))
    (ap (λ (l : List ℕ). l ++ time) pushed ∙ append_assoc out date time) (search rules)

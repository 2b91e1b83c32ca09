-- `fields::pages::write_page` meets its contract. Assumes nothing.
use Rattle.std.proofs.Common.{rules, arith}
use Rattle.words.specs.Refusal.{FIELD_3, done_if}
use Rattle.words.specs.Laws.Turns.{both_done}
use Rattle.fields.specs.Pages.{NUMBER_BIT, page_fields, is_own, used_counts, used_bits, counts_answer3}
use Rattle.fields.specs.Laws.Answers.{counts_judged_lem}
use Rattle.fields.specs.Laws.Pages.{few_bits}
use Rattle.fields.proofs.pages.Laws.{page_put}
use Rattle.fields.proofs.pages.write_page.Goals as goal

pub write-requires : goal.write-requires
write-requires c =
    let page = c.args.page.now in
    let fs = page_fields page.kind in
    let both = both_done (done_if (is_own page.kind page.number) FIELD_3 NUMBER_BIT) (counts_answer3 fs (used_counts page)) c.requires.0 in
    rw (c.table.ensures, c.used_counts.ensures.0) (
      rw c.used_counts.ensures.0 at c.used_counts.ensures.1,
      (omega (arith, few_bits page.kind, c.requires.1, c.write_head.auto.bits), counts_judged_lem FIELD_3 14 fs (used_counts page) both.1),
    )

pub returns : goal.returns
returns c =
    let page = c.args.page.now in
    page_put (page_fields page.kind) c.args.bits.now c.write_head.new.bits c.write.new.bits c.copy_from_slice.new.self (used_bits page)
    page.prn page.number c.bit_count.result (used_counts page) c.requires.1 (rw c.used_counts.ensures.0 at c.used_counts.ensures.1)
    (rw c.used_bits.ensures.0 at c.used_bits.ensures.1) c.bit_count.ensures.0
    c.write_head.ensures (search rules) (search rules)

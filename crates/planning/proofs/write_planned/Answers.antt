use Rattle.std.proofs.Common.{◌∙◌}
use Rattle.grid.specs.GridPairs.{grid_pairs}
use Rattle.page_writer.specs.Texts.{text_of}
use Rattle.planning.proofs.Solving.{same_answer, page_written}
use Rattle.planning.proofs.write_planned.Goals as goal

pub returns : goal.returns
returns c =
    let pairs = grid_pairs c.args.read.pairs in
    let ex = c.new-programmes.ensures.value ∙ c.deref_mut.ensures.value in
    let ey = c.new-slots.ensures.value ∙ c.deref_mut-2.ensures.value in
    let loaded = c.in_ok-load.ensures in
    let told = c.write_page.ensures in
    let text = text_of c.write_page.new.text in
    record {
      answer = same_answer pairs _ _ c.load.new.self.sheet c.hand_over.result.sheet c.hand_over.ensures loaded.attendance loaded.planned _ _ c.write_page.result text c.args.wanted ex ey told.answer;
      page = page_written pairs _ _ c.load.new.self.sheet c.hand_over.result.sheet c.hand_over.ensures loaded.attendance loaded.planned _ _ c.write_page.result text c.args.wanted ex ey told.page;
    }

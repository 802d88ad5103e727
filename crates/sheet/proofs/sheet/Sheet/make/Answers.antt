use Rattle.sheet.proofs.sheet.Sheet.make.Goals as goal

pub returns-in-Answer-clause-filled : goal.returns-in-Answer-clause-filled
returns-in-Answer-clause-filled g c = g.S.StrikeMemory.lasting.at_once c.args.self.now.strikes c.args.strikes.now

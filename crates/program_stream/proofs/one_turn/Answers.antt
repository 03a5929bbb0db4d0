use Rattle.program_stream.proofs.one_turn.Goals as goal

pub returns-in-None : goal.returns-in-None
returns-in-None c = c.rest_turn.ensures c.args.t.now

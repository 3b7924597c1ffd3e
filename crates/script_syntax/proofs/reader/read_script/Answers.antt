use Rattle.std.proofs.Common.{Ok, Err}
use Rattle.script_syntax.proofs.Callers.{found_in, told_in, only_in, made_in}
use Rattle.script_syntax.proofs.reader.read_script.Goals as goal

pub returns : goal.returns
returns c =
    let r = c.read_whole.result in
    let h = c.read_whole.ensures in
    record {
      found = found_in c.args.text.now r h;
      only = λ tree s. only_in c.args.text.now r h (Ok tree) s;
      first = told_in c.args.text.now r h;
      told = λ fault s. only_in c.args.text.now r h (Err fault) s;
      made = made_in c.args.text.now r h;
      exact = h;
    }

use Rattle.asl_tree.proofs.Tokens.{list_back, object_back}
use Rattle.asl_tree.proofs.writing.+write.Goals as goal

pub write-returns-in_ok-write_elements-in-List-clause-reads_back :
    goal.write-returns-in_ok-write_elements-in-List-clause-reads_back
write-returns-in_ok-write_elements-in-List-clause-reads_back t c =
    rw c.in-List.is (list_back c.in-List.elements c.in_ok-write_elements-in-List.ensures.read_back)

pub write-returns-in_ok-write_fields-in-Object-clause-reads_back :
    goal.write-returns-in_ok-write_fields-in-Object-clause-reads_back
write-returns-in_ok-write_fields-in-Object-clause-reads_back t c =
    let fields = c.in_ok-write_fields-in-Object.ensures in
    rw c.in-Object.is (object_back c.in-Object.fields fields.in_order fields.read_back)
